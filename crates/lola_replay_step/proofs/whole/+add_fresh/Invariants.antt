-- Stream after stream.
use Rattle.std.proofs.Common.{length}
use Rattle.lola_replay_step.proofs.whole.+add_fresh.Given as goal

abbrev pub decreases-add_fresh : goal.decreases-add_fresh
decreases-add_fresh l = length l.streams.now
