use Rattle.std.proofs.Common.{length}
use Rattle.lola_step.proofs.moment.+present_inputs.Given as goal

abbrev pub decreases-present_inputs : goal.decreases-present_inputs
decreases-present_inputs l = length l.inputs.now
