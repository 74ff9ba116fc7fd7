use Rattle.std.proofs.Common.{length}
use Rattle.lola_save_read.proofs.seen.+all_equal.Given as goal

abbrev pub decreases-all_equal : goal.decreases-all_equal
decreases-all_equal l = length l.a.now
