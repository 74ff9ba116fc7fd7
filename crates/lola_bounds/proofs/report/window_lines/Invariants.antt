use Rattle.std.proofs.Common.{◌≡◌, ◌++◌, drop}
use Rattle.lola_bounds.specs.Report.{window_lines}
use Rattle.lola_bounds.proofs.report.window_lines.Given as goal

abbrev pub invariant-loop-number : goal.invariant-loop-number
invariant-loop-number l = l.to ++ window_lines l.plan l.number (drop l.number l.windows) ≡ l.initial.to ++ window_lines l.plan 0 l.windows
