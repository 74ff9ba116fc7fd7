-- Stream after stream.
use Rattle.std.proofs.Common.{length}
use Rattle.lola_replay_step.proofs.closes.+closed.Given as goal

abbrev pub decreases-closed : goal.decreases-closed
decreases-closed l = length l.streams.now
