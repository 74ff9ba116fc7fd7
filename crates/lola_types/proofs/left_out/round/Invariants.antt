use Rattle.std.proofs.Common.{◌≡◌, ◌++◌, drop}
use Rattle.lola_types.specs.LeftOut.{round_from}
use Rattle.lola_types.proofs.left_out.round.Given as goal

abbrev pub invariant-loop-number : goal.invariant-loop-number
invariant-loop-number l = l.next.items ++ round_from l.spec l.kinds (drop l.number l.kinds) (drop l.number l.streams) ≡ round_from l.spec l.kinds l.kinds l.streams
