-- What becomes of an instance that is given an outcome.
use Rattle.std.specs.Prelude.{ℕ, ◌≡◌, ◌≤◌, ◌-◌, List, [], ◌∷◌, ◌++◌, Some, slice_get, slice_set}
use Rattle.circular_buffer.specs.Buffer.{keep_last}
use Rattle.lola_value.specs.declared.text.Field.{Field}
use Rattle.lola_value.specs.declared.value.Value.{Value}
use Rattle.lola_value.specs.declared.value.Outcome.TheVariants as outcomes
use Rattle.lola_value.specs.Naming.{Naming, IsHeld}
use Rattle.lola_buffer.specs.Kept.{kept}
use Rattle.lola_instances_one.specs.Holdings.{Holdings, shown}
use Rattle.lola_instances_one.specs.Memories.{Remembers}
use Rattle.lola_instances_one.specs.Telling.{ToldAll}

-- it was given a value in the step of a number, at an offset from the start
pub record HasTold (step offset : ℕ) (v : Value) (x y : Holdings) : Type 0 where
  pub params : y.params ≡ x.params
  pub born : y.born ≡ x.born
  pub stamp : y.stamp ≡ step
  pub outcome : y.outcome ≡ outcomes.Value v
  pub ring : y.ring ≡ kept (keep_last x.ring.capacity (x.ring.values ++ v ∷ [])) x.ring.capacity
  pub panes : ToldAll offset v x.panes y.panes
  pub past : (start time : ℕ) (names : Naming) (values : List (ℕ × Field)) → Remembers start time step names x values
      → IsHeld names v → shown step x ≡ outcomes.Missing → offset ≡ time - start → start ≤ time
      → Remembers start time step names y values

-- it was poisoned in the step of a number
pub record WasPoisoned (step : ℕ) (x y : Holdings) : Type 0 where
  pub slot : y ≡ record x { stamp = step; outcome = outcomes.Poison }
  pub past : (start time : ℕ) (names : Naming) (values : List (ℕ × Field)) → Remembers start time step names x values
      → shown step x ≡ outcomes.Missing → Remembers start time step names y values

-- the instance at a place became another one, and no other was touched
pub record IsChangedAt (R : Holdings → Holdings → Type 0) (i : ℕ) (xs ys : List Holdings) : Type 0 where
  pub x : Holdings
  pub y : Holdings
  pub at : slice_get xs i ≡ Some x
  pub set : ys ≡ slice_set xs i y
  pub related : R x y
