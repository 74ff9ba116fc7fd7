use Rattle.std.proofs.Common.{◌≡◌, ◌+◌, take}
use Rattle.std.specs.List.{sum}
use Rattle.lola_instances_one.proofs.sums.place_past.Given as goal

abbrev pub invariant-loop-i : goal.invariant-loop-i
invariant-loop-i l = sum (take l.i l.numbers) + l.rest ≡ sum (take l.from l.numbers) + l.units
