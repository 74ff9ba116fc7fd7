use Rattle.std.proofs.Common.{List, ◌++◌, drop}
use Rattle.lola_model.specs.declared.spec.Stream.{Stream}
use Rattle.lola_types.specs.Around.{setting}
use Rattle.lola_types.specs.Filled.{FilledStreams}
use Rattle.lola_types.proofs.full.fill_streams.Given as goal

abbrev pub invariant-loop-number : goal.invariant-loop-number
invariant-loop-number l = (rest : List Stream) → FilledStreams (setting l.around) (drop l.number l.kinds) (drop l.number l.streams) rest → FilledStreams (setting l.around) l.kinds l.streams (l.full ++ rest)
