-- Deadlines are taken, and the moment whose deadlines may still come rises up to the limit.
use Rattle.std.proofs.Common.{◌≡◌, ◌≤◌, ◌-◌, ℕ, List}
use Rattle.lola_model.specs.Model.{Next}
use Rattle.lola_replay.specs.Progressing.{GoesBelow, IsAlong, IsFit}
use Rattle.lola_replay.proofs.progress.take_deadlines.Given as goal

abbrev pub invariant-loop-fault : goal.invariant-loop-fault
invariant-loop-fault l = record {
  fit : IsFit l.course.plan.now l.progress;
  low : l.progress.from ≤ l.limit;
  same : l.progress.rows ≡ l.initial.progress.rows;
  along : (text : List ℕ) (next : Next) (n : ℕ) → GoesBelow l.course.plan.now l.start next n l.limit
      → IsAlong l.course.plan.now l.course.show text l.start next n l.initial.progress → IsAlong l.course.plan.now l.course.show text l.start next n l.progress;
}

abbrev pub decreases-loop-fault : goal.decreases-loop-fault
decreases-loop-fault l = l.limit - l.progress.from
