use Rattle.std.proofs.Common.{◌≡◌, ◌++◌, drop}
use Rattle.lola_bounds.specs.Report.{stream_lines}
use Rattle.lola_bounds.proofs.report.stream_lines.Given as goal

abbrev pub invariant-loop-number : goal.invariant-loop-number
invariant-loop-number l = l.to ++ stream_lines l.plan l.number (drop l.number l.streams) ≡ l.initial.to ++ stream_lines l.plan 0 l.streams
