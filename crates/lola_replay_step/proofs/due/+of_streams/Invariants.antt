-- Stream after stream.
use Rattle.std.proofs.Common.{length}
use Rattle.lola_replay_step.proofs.due.+of_streams.Given as goal

abbrev pub decreases-of_streams : goal.decreases-of_streams
decreases-of_streams l = length l.known.now
