-- The spawn clauses below a number are answered.
use Rattle.std.proofs.Common.{◌≡◌, ◌-◌, length}
use Rattle.lola_replay_table.specs.Moments.{the_step}
use Rattle.lola_replay_step.proofs.Passing.{AreAnsweredBelow}
use Rattle.lola_replay_step.proofs.step.answer_spawns.Given as goal

abbrev pub invariant-loop-number : goal.invariant-loop-number
invariant-loop-number l =
    AreAnsweredBelow l.plan l.moment.start (the_step l.moment) l.initial.known l.known l.number
    × (length l.initial.known ≡ length l.plan.spec.streams)

abbrev pub decreases-loop-number : goal.decreases-loop-number
decreases-loop-number l = length l.plan.spec.streams - l.number
