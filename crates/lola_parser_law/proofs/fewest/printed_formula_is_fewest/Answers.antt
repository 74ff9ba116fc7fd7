use Rattle.lola_parser_law.proofs.PlaceLemmas.{printed_formula_fewest}
use Rattle.lola_parser_law.proofs.fewest.printed_formula_is_fewest.Goals as goal

pub returns : goal.returns
returns c m x h = printed_formula_fewest m x h
