use Rattle.lola_parser_law.proofs.InList.{in_list}
use Rattle.lola_parser_law.proofs.places.place_in_list_is_deep.Goals as goal

pub returns : goal.returns
returns c n le ts d p rest less h l = in_list n le ts d p rest less h l
