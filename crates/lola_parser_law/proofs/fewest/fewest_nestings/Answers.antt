use Rattle.lola_parser_law.proofs.FewestExpressions.{fewest}
use Rattle.lola_parser_law.proofs.fewest.fewest_nestings.Goals as goal

pub returns : goal.returns
returns c n ts x h = fewest n ts x h
