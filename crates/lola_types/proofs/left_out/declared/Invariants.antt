use Rattle.std.proofs.Common.{◌≡◌, ◌++◌, drop}
use Rattle.lola_types.specs.LeftOut.{declared_kinds}
use Rattle.lola_types.proofs.left_out.declared.Given as goal

abbrev pub invariant-loop-stream : goal.invariant-loop-stream
invariant-loop-stream l = l.kinds.items ++ declared_kinds (drop l.stream-index l.streams) ≡ declared_kinds l.streams
