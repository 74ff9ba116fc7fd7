use Rattle.lola_parser.proofs.Own.{own_is_deep}
use Rattle.lola_parser.proofs.law.own_place_is_deep.Goals as goal

pub returns : goal.returns
returns c n le ts d p rest h l = own_is_deep n le ts d p rest h l
