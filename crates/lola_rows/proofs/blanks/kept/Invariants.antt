use Rattle.std.proofs.Common.{◌≡◌, ◌≤◌, length, take}
use Rattle.lola_rows.specs.Blanks.{kept_length}
use Rattle.lola_rows.proofs.blanks.kept.Given as goal

abbrev pub invariant-loop-end : goal.invariant-loop-end
invariant-loop-end l = record {
  within : l.end ≤ length l.field;
  reads : kept_length l.field ≡ kept_length (take l.end l.field);
}

abbrev pub decreases-loop-end : goal.decreases-loop-end
decreases-loop-end l = l.end
