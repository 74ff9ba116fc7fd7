-- The outcomes so far are written.
use Rattle.std.proofs.Common.{◌≡◌, ℕ, ◌+◌, ◌<◌, length, slice_get}
use Rattle.lola_workers.proofs.layer.write_from.Given as goal

abbrev pub invariant-loop-i : goal.invariant-loop-i
invariant-loop-i l = record {
  same_length : length l.results ≡ length l.initial.results;
  before : (k : ℕ) → k < l.start → slice_get l.results k ≡ slice_get l.initial.results k;
  written : (k : ℕ) → k < l.i → slice_get l.results (l.start + k) ≡ slice_get l.outcomes k;
}
