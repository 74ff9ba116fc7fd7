use Rattle.lola_parser_law.proofs.Both.{behind}
use Rattle.lola_parser_law.proofs.places.place_behind_is_deep.Goals as goal

pub returns : goal.returns
returns c n le ts d p rest less h l = behind n le ts d p rest less h l
