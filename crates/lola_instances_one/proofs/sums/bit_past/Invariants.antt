use Rattle.std.proofs.Common.{◌≡◌, ◌+◌, take}
use Rattle.std.specs.List.{sum_by}
use Rattle.lola_instances_one.specs.Bits.{bit}
use Rattle.lola_instances_one.proofs.sums.bit_past.Given as goal

abbrev pub invariant-loop-i : goal.invariant-loop-i
invariant-loop-i l = sum_by bit (take l.i l.bits) + l.rest ≡ sum_by bit (take l.from l.bits) + l.units
