-- The law, at this plan.
use Rattle.lola_model.proofs.Due.{has_due}
use Rattle.lola_model.proofs.law.least_due.Goals as goal

pub returns : goal.returns
returns c = has_due c.args._plan.now c.requires
