use Rattle.std.proofs.Common.{take}
use Rattle.lola_pacing.specs.Flags.{Flags}
use Rattle.lola_pacing.proofs.search.flag.Given as goal

abbrev pub invariant-loop-stream : goal.invariant-loop-stream
invariant-loop-stream l = Flags l.own (take l.stream-index l.streams) l.initial.flags l.initial.noted.items l.flags l.noted.items
