use Rattle.lola_parser_law.proofs.Both.{place_is}
use Rattle.lola_parser_law.proofs.places.place_is_deep.Goals as goal

pub returns : goal.returns
returns c n le ts at less h p rest l = place_is n le ts at less h p rest l
