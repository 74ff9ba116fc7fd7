use Rattle.std.proofs.Common.{◌≡◌, ◌++◌, drop}
use Rattle.lola_instances.proofs.layout.copy_sizes.Given as goal

abbrev pub invariant-loop-p : goal.invariant-loop-p
invariant-loop-p l = l.copy ++ drop l.p-index l.p-items ≡ l.p-items
