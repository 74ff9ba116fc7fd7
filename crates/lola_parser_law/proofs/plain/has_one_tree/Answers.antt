use Rattle.lola_parser_law.proofs.Whole.{one_tree}
use Rattle.lola_parser_law.proofs.plain.has_one_tree.Goals as goal

pub returns : goal.returns
returns c ts x y s t = one_tree ts x y s t
