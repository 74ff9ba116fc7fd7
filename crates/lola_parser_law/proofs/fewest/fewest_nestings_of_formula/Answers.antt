use Rattle.lola_parser_law.proofs.Formulas.{fewest_of_formula}
use Rattle.lola_parser_law.proofs.fewest.fewest_nestings_of_formula.Goals as goal

pub returns : goal.returns
returns c n ts x h = fewest_of_formula n ts x h
