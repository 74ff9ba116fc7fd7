-- Stream after stream.
use Rattle.std.proofs.Common.{length}
use Rattle.lola_replay_step.proofs.closes.+first_closing.Given as goal

abbrev pub decreases-first_closing : goal.decreases-first_closing
decreases-first_closing l = length l.streams.now
