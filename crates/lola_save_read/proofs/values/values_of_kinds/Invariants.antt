use Rattle.std.proofs.Common.{take}
use Rattle.lola_save_read.proofs.ValueRows.{AreValuesSoFar}
use Rattle.lola_save_read.proofs.values.values_of_kinds.Given as goal

abbrev pub invariant-loop-kind : goal.invariant-loop-kind
invariant-loop-kind l = AreValuesSoFar (take l.kind-index l.kinds) l.bytes l.values l.left
