use Rattle.std.proofs.Common.{◌≡◌, ◌++◌, drop}
use Rattle.std.specs.List.{flat_map}
use Rattle.lola_names.specs.Specification.{part_ranges}
use Rattle.lola_names.proofs.places.with_ranges.Given as goal

abbrev pub invariant-loop-part : goal.invariant-loop-part
invariant-loop-part l = l.to ++ flat_map part_ranges (drop l.part-index l.xs) ≡ l.fn.to ++ flat_map part_ranges l.xs
