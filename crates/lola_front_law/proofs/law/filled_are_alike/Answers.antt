use Rattle.lola_front_law.proofs.PlainKinds.{filled_alike}
use Rattle.lola_front_law.proofs.law.filled_are_alike.Goals as goal

pub returns : goal.returns
returns c spec other full whole same x y = filled_alike spec other full whole same x y
