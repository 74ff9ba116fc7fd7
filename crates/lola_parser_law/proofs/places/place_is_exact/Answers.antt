use Rattle.lola_parser_law.proofs.InTree.{exact}
use Rattle.lola_parser_law.proofs.places.place_is_exact.Goals as goal

pub returns : goal.returns
returns c n le ts at less h x g = exact n le ts at less h x g
