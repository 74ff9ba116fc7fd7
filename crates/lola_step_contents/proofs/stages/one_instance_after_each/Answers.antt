use Rattle.lola_step_contents.proofs.Settled.{stay_settled}
use Rattle.lola_step_contents.proofs.stages.one_instance_after_each.Goals as goal

pub returns : goal.returns
returns c = stay_settled c.args._plan.now c.requires
