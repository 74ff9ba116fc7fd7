-- Stream after stream.
use Rattle.std.proofs.Common.{length}
use Rattle.lola_replay_step.proofs.fault.+first_known.Given as goal

abbrev pub decreases-first_known : goal.decreases-first_known
decreases-first_known l = length l.known.now
