use Rattle.std.proofs.Common.{◌≡◌, ◌-◌, false, take, drop}
use Rattle.std.specs.List.{list_any}
use Rattle.lola_rows.specs.Line.{is_comma}
use Rattle.lola_rows.proofs.line.comma_from.Given as goal

abbrev pub invariant-loop-at : goal.invariant-loop-at
invariant-loop-at l = list_any is_comma (take (l.at - l.start) (drop l.start l.line)) ≡ false
