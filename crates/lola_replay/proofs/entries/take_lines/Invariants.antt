-- The lines so far are taken, and these are left.
use Rattle.std.proofs.Common.{◌≡◌, ◌≤◌, ◌+◌, ℕ, List, [], Option, length}
use Rattle.lola_model.specs.Trace.{input_kinds}
use Rattle.lola_replay.specs.Running.{IsFitRun, IsOn, IsTaking}
use Rattle.lola_replay.proofs.entries.take_lines.Given as goal

abbrev pub invariant-loop-rest : goal.invariant-loop-rest
invariant-loop-rest l = record {
  fit : IsFitRun l.course.plan.now l.run;
  kinds : l.reader.kinds ≡ input_kinds l.course.plan.now.spec.streams;
  few : l.run.tracking.entries + length l.rest ≤ length l.trace;
  taking : (start : Option ℕ) (text : List ℕ) → IsOn l.course.plan.now start l.course.show text [] l.initial.run → IsTaking l.course.plan.now start l.course.show text l.trace l.rest l.run;
}

abbrev pub decreases-loop-rest : goal.decreases-loop-rest
decreases-loop-rest l = length l.rest
