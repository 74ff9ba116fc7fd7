-- What is still to be done.
use Rattle.std.proofs.Common.{◌≡◌, ◌-◌, length}
use Rattle.lola_replay_step.specs.Rests.{rested_all, rested_behind}
use Rattle.lola_replay_step.proofs.whole.rest.Given as goal

abbrev pub invariant-loop-number : goal.invariant-loop-number
invariant-loop-number l = rested_behind l.number l.time l.left l.known ≡ rested_all l.time l.closed l.initial.known

abbrev pub decreases-loop-number : goal.decreases-loop-number
decreases-loop-number l = length l.known - l.number
