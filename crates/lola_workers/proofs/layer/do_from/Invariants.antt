-- The tasks so far are done.
use Rattle.std.proofs.Common.{◌≡◌, ℕ, ◌+◌, ◌<◌, IsSomeAnd, length, slice_get}
use Rattle.lola_workers.proofs.layer.do_from.Given as goal

abbrev pub invariant-loop-i : goal.invariant-loop-i
invariant-loop-i g l = record {
  same_length : length l.results ≡ length l.initial.results;
  before : (k : ℕ) → k < l.start → slice_get l.results k ≡ slice_get l.initial.results k;
  done : (k : ℕ) → k < l.i → IsSomeAnd (slice_get l.results (l.start + k)) (g.J.Job.gives l.job (l.start + k));
}
