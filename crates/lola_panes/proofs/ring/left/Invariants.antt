use Rattle.std.proofs.Common.{◌-◌, ◌≤◌, length}
use Rattle.lola_panes.specs.Rings.{left_count}
use Rattle.lola_panes.proofs.ring.left.Given as goal

abbrev pub invariant-loop-low : goal.invariant-loop-low
invariant-loop-low l = (l.low ≤ left_count l.count l.k l.ring.items) × (left_count l.count l.k l.ring.items ≤ l.high) × (l.high ≤ length l.ring.items)

abbrev pub decreases-loop-low : goal.decreases-loop-low
decreases-loop-low l = l.high - l.low
