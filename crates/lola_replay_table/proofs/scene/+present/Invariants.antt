use Rattle.std.proofs.Common.{length}
use Rattle.lola_replay_table.proofs.scene.+present.Given as goal

abbrev pub decreases-present : goal.decreases-present
decreases-present l = length l.fields.now
