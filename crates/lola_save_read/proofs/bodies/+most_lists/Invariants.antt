use Rattle.std.proofs.Common.{length}
use Rattle.lola_save_read.proofs.bodies.+most_lists.Given as goal

abbrev pub decreases-most_lists : goal.decreases-most_lists
decreases-most_lists l = length l.kinds.now
