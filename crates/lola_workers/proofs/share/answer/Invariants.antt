-- The tasks so far are done, and their outcomes stand behind those that stood there.
use Rattle.std.proofs.Common.{◌≡◌, ℕ, ◌+◌, ◌<◌, IsSomeAnd, length, slice_get, vec_len}
use Rattle.std.specs.Vec.{vec_capacity}
use Rattle.lola_workers.proofs.share.answer.Given as goal

abbrev pub invariant-loop-i : goal.invariant-loop-i
invariant-loop-i g l = record {
  room : vec_capacity l.outcomes ≡ vec_capacity l.initial.outcomes;
  many : vec_len l.outcomes ≡ vec_len l.initial.outcomes + l.i;
  more : length l.outcomes.items ≡ length l.initial.outcomes.items + l.i;
  before : (k : ℕ) → k < length l.initial.outcomes.items → slice_get l.outcomes.items k ≡ slice_get l.initial.outcomes.items k;
  each : (k : ℕ) → k < l.i → IsSomeAnd (slice_get l.outcomes.items (length l.initial.outcomes.items + k)) (g.J.Job.gives l.job (l.start + k));
}
