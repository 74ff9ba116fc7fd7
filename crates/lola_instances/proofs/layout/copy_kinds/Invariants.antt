use Rattle.std.proofs.Common.{◌≡◌, ◌++◌, drop}
use Rattle.lola_instances.proofs.layout.copy_kinds.Given as goal

abbrev pub invariant-loop-k : goal.invariant-loop-k
invariant-loop-k l = l.copy ++ drop l.k-index l.k-items ≡ l.k-items
