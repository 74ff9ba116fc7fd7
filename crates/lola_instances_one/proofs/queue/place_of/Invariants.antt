-- What is before is due no later, and what is behind no earlier.
use Rattle.std.proofs.Common.{ℕ, ◌-◌, ◌≤◌, ◌<◌, length, get_or}
use Rattle.lola_instances_one.specs.declared.queue.Birth.{Birth}
use Rattle.lola_instances_one.proofs.queue.place_of.Given as goal

abbrev pub invariant-loop-low : goal.invariant-loop-low
invariant-loop-low l = record {
  low : l.low ≤ l.high;
  high : l.high ≤ length l.queue.items;
  before : (k : ℕ) (d : Birth) → k < l.low → (get_or l.queue.items k d).due ≤ l.entry.due;
  behind : (k : ℕ) (d : Birth) → l.high ≤ k → k < length l.queue.items → l.entry.due ≤ (get_or l.queue.items k d).due;
}

abbrev pub decreases-loop-low : goal.decreases-loop-low
decreases-loop-low l = l.high - l.low
