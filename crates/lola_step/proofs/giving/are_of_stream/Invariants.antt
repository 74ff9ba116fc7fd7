-- The tasks before this place are those of the stream's first instances.
use Rattle.std.proofs.Common.{◌≡◌, ℕ, ◌<◌, Some, slice_get}
use Rattle.lola_step.proofs.giving.are_of_stream.Given as goal

abbrev pub invariant-loop-i : goal.invariant-loop-i
invariant-loop-i l = (k : ℕ) → k < l.i → slice_get l.tasks k ≡ Some (record { stream = l.stream; index = k })
