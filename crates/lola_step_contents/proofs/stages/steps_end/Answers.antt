use Rattle.lola_step_contents.proofs.stages.steps_end.Goals as goal
use Rattle.lola_step_contents.proofs.Ending.{each_step_ends}

pub returns : goal.returns
returns c = each_step_ends
