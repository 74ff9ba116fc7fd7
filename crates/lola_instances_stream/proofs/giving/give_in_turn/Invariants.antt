-- Those before this place have what they come to, and the others are as they were.
use Rattle.std.proofs.Common.{◌≡◌, ℕ, ◌-◌, ◌≤◌, List, true, length, map, take, slice_get}
use Rattle.lola_value.specs.declared.text.Field.{Field}
use Rattle.lola_value.specs.Naming.{Naming}
use Rattle.lola_model.specs.Given.{AreHeldIn, given_each}
use Rattle.lola_instances_one.specs.Holdings.{slot_seen}
use Rattle.lola_instances_stream.specs.Crowds.{RemembersAt}
use Rattle.lola_instances_stream.specs.Rights.{AreRight}
use Rattle.lola_instances_stream.proofs.giving.give_in_turn.Given as goal

abbrev pub invariant-loop-i : goal.invariant-loop-i
invariant-loop-i l = record {
  right : AreRight true l.step l.offset l.lives;
  rest : l.lives ≡ record l.fn.lives { slots = l.lives.slots };
  count : length l.lives.slots ≡ length l.fn.lives.slots;
  seen : map (slot_seen l.step) l.lives.slots ≡ given_each (map (slot_seen l.step) l.fn.lives.slots) (take l.i l.outcomes);
  past : (start time : ℕ) (names : Naming) (i : ℕ) (values : List (ℕ × Field)) → l.offset ≡ time - start → start ≤ time → AreHeldIn names l.outcomes
      → RemembersAt start time l.step names (slice_get l.fn.lives.slots i) values → RemembersAt start time l.step names (slice_get l.lives.slots i) values;
}
