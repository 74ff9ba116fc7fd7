-- The instances below a place are answered.
use Rattle.std.proofs.Common.{◌≡◌, ◌-◌, length}
use Rattle.lola_replay_table.specs.Moments.{the_step}
use Rattle.lola_replay_step.proofs.PassingLives.{AreLivesBelow}
use Rattle.lola_replay_step.proofs.step.answer_lives.Given as goal

abbrev pub invariant-loop-place : goal.invariant-loop-place
invariant-loop-place l =
    AreLivesBelow l.plan l.moment.start (the_step l.moment) l.fn.number l.initial.known l.known l.place
    × (length l.initial.known ≡ length l.plan.spec.streams)

abbrev pub decreases-loop-place : goal.decreases-loop-place
decreases-loop-place l = l.lives - l.place
