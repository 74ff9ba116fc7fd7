use Rattle.std.proofs.Common.{◌≡◌, ◌+◌, take}
use Rattle.std.specs.List.{sum}
use Rattle.lola_instances_one.proofs.sums.sum_between.Given as goal

abbrev pub invariant-loop-i : goal.invariant-loop-i
invariant-loop-i l = l.total + sum (take l.from l.numbers) ≡ sum (take l.i l.numbers)
