-- The tasks so far are settled.
use Rattle.std.proofs.Common.{◌≡◌, ℕ, ◌-◌, ◌<◌, ◌≤◌, IsSomeAnd, length, slice_get}
use Rattle.lola_workers.proofs.layer.share_and_settle.Given as goal

abbrev pub invariant-loop-start : goal.invariant-loop-start
invariant-loop-start g l = record {
  same_length : length l.results ≡ length l.initial.results;
  within : l.start ≤ length l.results;
  settled : (k : ℕ) → k < l.start → IsSomeAnd (slice_get l.results k) (g.J.Job.gives l.job k);
}

abbrev pub decreases-loop-start : goal.decreases-loop-start
decreases-loop-start g l = length l.initial.results - l.start
