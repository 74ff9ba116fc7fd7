use Rattle.lola_front_law.proofs.PlanLiterals.{plan-texts}
use Rattle.lola_front_law.proofs.texts.plan_texts_are_utf8.Goals as goal

pub returns : goal.returns
returns c = plan-texts
