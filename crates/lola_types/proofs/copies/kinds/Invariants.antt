use Rattle.std.proofs.Common.{◌≡◌, ◌++◌, drop}
use Rattle.lola_types.proofs.copies.kinds.Given as goal

abbrev pub invariant-loop-kind : goal.invariant-loop-kind
invariant-loop-kind l = l.copy ++ drop l.kind-index l.kinds ≡ l.kinds
