-- The instances in the cells so far were given their outcomes, and the others are as they were.
use Rattle.std.specs.Prelude.{◌≡◌, ℕ, ◌<◌, ◌≤◌, Option, length, slice_get, slice_index_or}
use Rattle.lola_instances_one.specs.Holdings.{Holdings}
use Rattle.lola_instances_stream.specs.Cells.{IsSlotChanged}
use Rattle.lola_instances_stream.specs.Givings.{HasGivenAt}
use Rattle.lola_instances_stream.proofs.giving.give_part.Given as goal

abbrev pub invariant-loop-number : goal.invariant-loop-number
invariant-loop-number l = record {
  same_length : length l.cells ≡ length l.initial.cells;
  others : (i : ℕ) (d : Option Holdings) → l.number ≤ i → slice_index_or l.cells i d ≡ slice_index_or l.initial.cells i d;
  given : (i : ℕ) (d : Option Holdings) → i < l.number
      → IsSlotChanged (HasGivenAt l.step l.offset (slice_get l.outcomes i)) (slice_index_or l.initial.cells i d) (slice_index_or l.cells i d);
}
