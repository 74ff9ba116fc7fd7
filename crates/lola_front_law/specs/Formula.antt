-- Which moments are deadlines: the formula by which a clause is found active, and the words of the language.
use Rattle.std.specs.Prelude.{ℕ, ◌≡◌, ◌+◌, ◌-◌, ◌↔◌, [], ◌∷◌, Some, true, false}
use Rattle.lola_value.specs.Ratio.{Ratio}
use Rattle.lola_value.specs.Rate.{IsDeadline, IsRate}
use Rattle.lola_model.specs.Activity.{is_active_for, is_deadline}
use Rattle.lola_model.specs.NextStep.{IsDeadlineSince}
use Rattle.lola_model.specs.StepOrder as order
use Rattle.lola_model.specs.Steps.{deadline_step, row_step}
use Rattle.lola_model.specs.declared.journal.Row.{Row}
use Rattle.lola_model.specs.declared.pacing.Pacing.TheVariants.{Periodic, Local}

-- a moment that is a deadline of a rate, counted from another
abbrev pub IsDeadlineFrom : ℕ → Ratio → ℕ → Type 0
IsDeadlineFrom counted r time = (after : ℕ) × IsDeadline r after × (counted + after ≡ time)

pub record HasDeadlines (r : Ratio) : Type 0 where
  -- the formula tells the deadlines
  pub formula : (after : ℕ) → (is_deadline r after ≡ true) ↔ IsDeadline r after
  -- a clause with a rate that counts from the start is active at its deadlines from the start, for whatever instance
  pub from_start : (start born time : ℕ) → (is_active_for start born (deadline_step time) (Some (Periodic r)) ≡ true) ↔ IsDeadlineFrom start r time
  -- one with a local rate at those from the birth of the instance
  pub from_birth : (start born time : ℕ) → (is_active_for start born (deadline_step time) (Some (Local r)) ≡ true) ↔ IsDeadlineFrom born r time
  -- and neither in the step of a row
  pub not_from_start : (start born : ℕ) (row : Row) → is_active_for start born (row_step row) (Some (Periodic r)) ≡ false
  pub not_from_birth : (start born : ℕ) (row : Row) → is_active_for start born (row_step row) (Some (Local r)) ≡ false
  -- the deadlines since a moment, which the model speaks of, are the same
  pub since : (counted time : ℕ) → IsDeadlineSince counted (r ∷ []) time ↔ IsDeadlineFrom counted r time

pub record AreDeadlines : Type 0 where
  -- each rate that a specification can have
  pub rates : (r : Ratio) → IsRate r → HasDeadlines r
  -- of a fraction of which no more is known than that it is above 0, the formula tells the deadlines after the moment from which it counts
  pub fractions : (r : Ratio) → order.IsPositiveRate r → (counted time : ℕ) → (is_deadline r (time - counted) ≡ true) ↔ IsDeadlineSince counted (r ∷ []) time
