use Rattle.lola_parser_law.proofs.Limits.{specification_small}
use Rattle.lola_parser_law.proofs.Within.{specification_kept}
use Rattle.lola_parser_law.proofs.fewest.printed_within.Goals as goal

pub returns : goal.returns
returns c n m ts xs h fit = specification_kept m xs fit (specification_small n ts xs h)
