-- Those before this place have what they come to, and the others are as they were.
use Rattle.std.proofs.Common.{◌≡◌, ℕ, List, take}
use Rattle.lola_value.specs.declared.text.Field.{Field}
use Rattle.lola_value.specs.Naming.{Naming}
use Rattle.lola_model.specs.Given.{AreHeldIn, after_each}
use Rattle.lola_store.specs.Stores.{whole_seen, whole_remembers}
use Rattle.lola_store.proofs.giving.give_each.Given as goal

abbrev pub invariant-loop-i : goal.invariant-loop-i
invariant-loop-i l = record {
  seen : whole_seen l.s ≡ after_each (whole_seen l.fn.s) l.stream (take l.i l.outcomes);
  past : (names : Naming) (n i : ℕ) (values : List (ℕ × Field)) → AreHeldIn names l.outcomes → whole_remembers l.fn.s names n i values → whole_remembers l.s names n i values;
}
