use Rattle.lola_step_contents.proofs.Settled.{settled_at_none}
use Rattle.lola_step_contents.proofs.stages.one_instance_at_first.Goals as goal

pub returns : goal.returns
returns c = settled_at_none c.args._plan.now
