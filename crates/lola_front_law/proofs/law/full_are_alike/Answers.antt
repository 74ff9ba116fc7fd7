use Rattle.lola_front_law.proofs.PlainPlans.{full_plain}
use Rattle.lola_front_law.proofs.law.full_are_alike.Goals as goal

pub returns : goal.returns
returns c bytes full other x y = full_plain bytes full other x y
