use Rattle.lola_parser_law.proofs.WithNestings.{behind_next}
use Rattle.lola_parser_law.proofs.places.place_behind_next_is_deep.Goals as goal

pub returns : goal.returns
returns c n le ts d p rest h l = behind_next n le ts d p rest h l
