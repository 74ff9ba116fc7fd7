use Rattle.std.proofs.Common.{length, ◌-◌, ◌≤◌}
use Rattle.lola_rows.proofs.LineFacts.{IsQuoting}
use Rattle.lola_rows.proofs.line.quoted_field.Given as goal

abbrev pub invariant-loop-at : goal.invariant-loop-at
invariant-loop-at l = record {
  within : l.at ≤ length l.line;
  past : l.start ≤ l.at;
  reads : IsQuoting l.line l.start l.at l.inside l.field.items;
}

abbrev pub decreases-loop-at : goal.decreases-loop-at
decreases-loop-at l = length l.line - l.at
