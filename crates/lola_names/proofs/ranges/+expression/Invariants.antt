use Rattle.std.proofs.Common.{◌≡◌, ◌++◌, drop}
use Rattle.std.specs.List.{flat_map}
use Rattle.lola_names.specs.Specification as range
use Rattle.lola_names.proofs.ranges.+expression.Given as goal

abbrev pub invariant-argument_ranges-loop-x : goal.invariant-argument_ranges-loop-x
invariant-argument_ranges-loop-x l = l.to ++ flat_map range.expr_ranges (drop l.x-index l.xs) ≡ l.initial.to ++ flat_map range.expr_ranges l.xs
