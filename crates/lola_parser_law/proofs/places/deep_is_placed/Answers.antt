use Rattle.lola_parser_law.proofs.InTree.{placed}
use Rattle.lola_parser_law.proofs.places.deep_is_placed.Goals as goal

pub returns : goal.returns
returns c n le u t v x late = placed n le u t v x late
