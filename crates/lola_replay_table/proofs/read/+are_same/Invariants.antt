use Rattle.std.proofs.Common.{length}
use Rattle.lola_replay_table.proofs.read.+are_same.Given as goal

abbrev pub decreases-are_same : goal.decreases-are_same
decreases-are_same l = length l.params.now
