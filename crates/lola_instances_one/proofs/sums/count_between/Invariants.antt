use Rattle.std.proofs.Common.{◌≡◌, ◌+◌, take}
use Rattle.std.specs.List.{sum_by}
use Rattle.lola_instances_one.specs.Bits.{bit}
use Rattle.lola_instances_one.proofs.sums.count_between.Given as goal

abbrev pub invariant-loop-i : goal.invariant-loop-i
invariant-loop-i l = l.total + sum_by bit (take l.from l.bits) ≡ sum_by bit (take l.i l.bits)
