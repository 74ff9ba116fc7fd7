-- What becomes of an instance that is restored from what was saved of it.
use Rattle.std.specs.Prelude.{ℕ, ◌≡◌, List, [], ◌∷◌, ◌++◌}
use Rattle.circular_buffer.specs.Buffer.{keep_last}
use Rattle.lola_value.specs.declared.value.Value.{Value}
use Rattle.lola_value.specs.declared.value.Outcome.TheVariants as outcomes
use Rattle.lola_buffer.specs.Kept.{kept}
use Rattle.lola_panes.specs.declared.partial.Partial.{Partial}
use Rattle.lola_instances_one.specs.Holdings.{Holdings}
use Rattle.lola_instances_one.specs.Saved.{ArePanesChanged, WereRestored}

-- it has one more of its last values
pub record HasOneMore (v : Value) (x y : Holdings) : Type 0 where
  pub params : y.params ≡ x.params
  pub born : y.born ≡ x.born
  pub ring : y.ring ≡ kept (keep_last x.ring.capacity (x.ring.values ++ v ∷ [])) x.ring.capacity
  pub panes : y.panes ≡ x.panes

-- its panes of the window at a place were restored up to a last one, from these partial results, behind so many values in all
pub record HasPanesRestored (last : ℕ) (parts : List Partial) (count place : ℕ) (x y : Holdings) : Type 0 where
  pub params : y.params ≡ x.params
  pub born : y.born ≡ x.born
  pub ring : y.ring ≡ x.ring
  pub panes : ArePanesChanged (WereRestored last parts count) place x.panes y.panes

-- it became another one, which was given nothing that is shown since the step of a number
pub record IsRested (step : ℕ) (R : Holdings → Holdings → Type 0) (x y : Holdings) : Type 0 where
  pub stamp : y.stamp ≡ step
  pub outcome : y.outcome ≡ outcomes.Missing
  pub related : R x y
