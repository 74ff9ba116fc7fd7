use Rattle.std.proofs.Common.{arith}
use Rattle.lola_pacing.proofs.OwnLemmas.{grown_own}
use Rattle.lola_pacing.proofs.given.owns.Goals as goal

pub returns : goal.returns
returns c = grown_own c.args.streams.now c.args.streams.now c.loop-stream.stream-index c.loop-stream.inputs c.loop-stream.owns.items (omega arith) c.loop-stream.invariant.grows
