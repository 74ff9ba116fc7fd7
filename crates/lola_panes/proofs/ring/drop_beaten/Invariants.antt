use Rattle.std.proofs.Common.{◌≡◌, length}
use Rattle.circular_buffer.specs.Buffer.{buffer}
use Rattle.lola_panes.specs.Rings.{unbeaten}
use Rattle.lola_panes.proofs.ring.drop_beaten.Given as goal

abbrev pub invariant-loop-aggregation : goal.invariant-loop-aggregation
invariant-loop-aggregation l = buffer (unbeaten l.aggregation l.weight l.ring.items) l.ring.capacity ≡ buffer (unbeaten l.aggregation l.weight l.initial.ring.items) l.initial.ring.capacity

abbrev pub decreases-loop-aggregation : goal.decreases-loop-aggregation
decreases-loop-aggregation l = length l.ring.items
