use Rattle.std.proofs.Common.{◌≡◌, ◌≤◌, ◌+◌, length}
use Rattle.lola_model.specs.declared.plan.Plan.{Plan}
use Rattle.lola_model.specs.Trace.{input_kinds}
use Rattle.lola_report.proofs.Lines.{Taken}
use Rattle.lola_report.proofs.read.fill.Given as goal

abbrev pub invariant-loop-place : goal.invariant-loop-place
invariant-loop-place l = record {
  number : l.number ≡ length l.journal + 1;
  left : l.number + length l.rest ≤ length l.bytes + 1;
  taken : (plan : Plan) → input_kinds plan.spec.streams ≡ l.kinds → Taken plan l.bytes l.journal l.rest;
}

abbrev pub decreases-loop-place : goal.decreases-loop-place
decreases-loop-place l = length l.rest
