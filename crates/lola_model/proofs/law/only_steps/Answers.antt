-- The law, at these pacings.
use Rattle.lola_model.proofs.StepsInOrder.{has_the_steps}
use Rattle.lola_model.proofs.law.only_steps.Goals as goal

pub returns : goal.returns
returns c = has_the_steps c.args._pacings.now c.requires
