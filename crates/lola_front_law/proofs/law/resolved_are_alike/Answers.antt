use Rattle.lola_front_law.proofs.PlainPlans.{resolved_alike}
use Rattle.lola_front_law.proofs.law.resolved_are_alike.Goals as goal

pub returns : goal.returns
returns c ds spec other x y = resolved_alike ds spec other x y
