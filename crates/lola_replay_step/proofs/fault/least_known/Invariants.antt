-- The least so far, and of what is left.
use Rattle.std.proofs.Common.{◌≡◌, None, drop}
use Rattle.lola_replay_step.specs.StepFaults.{least_known}
use Rattle.lola_replay_step.proofs.fault.least_known.Given as goal

abbrev pub invariant-loop-life : goal.invariant-loop-life
invariant-loop-life l = least_known l.least (drop l.life-index l.lives) ≡ least_known None l.lives
