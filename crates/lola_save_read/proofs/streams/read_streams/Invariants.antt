use Rattle.std.proofs.Common.{drop, take}
use Rattle.lola_save_read.proofs.InstanceTurns.{AreStreamsSoFar}
use Rattle.lola_save_read.proofs.streams.read_streams.Given as goal

abbrev pub invariant-loop-number : goal.invariant-loop-number
invariant-loop-number l = AreStreamsSoFar l.times l.forms l.bytes l.number (take l.number l.forms) l.streams (drop l.number l.forms) l.left
