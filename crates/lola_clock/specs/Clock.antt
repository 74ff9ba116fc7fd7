-- A clock: rates that count from one start, and the moment up to which their deadlines are passed.
use Rattle.std.specs.Prelude.{ℕ, ◌≡◌, ◌+◌, ◌-◌, ◌<◌, ◌≤◌, List, Option, Some, None, Contains, option_and_then}
use Rattle.lola_value.specs.Ratio.{Ratio}
use Rattle.lola_value.specs.Rate.{IsDeadline}
use Rattle.lola_value.specs.Times.{latest, up_to_latest}
use Rattle.lola_model.specs.Steps.{first_after}
use Rattle.lola_model.specs.StepOrder.{AreRates}

-- the rates, the start once it is set, and up to which moment all is passed
pub record ClockState : Type 0 where
  pub rates : List Ratio
  pub start : Option ℕ
  pub passed : ℕ

-- a moment that is not passed, at which some rate has a deadline, counted from the start
pub record IsToCome (clock : ClockState) (t : ℕ) : Type 0 where
  pub start : ℕ
  pub started : clock.start ≡ Some start
  pub rate : Ratio
  pub listed : Contains clock.rates rate
  pub later : clock.passed < t
  pub deadline : IsDeadline rate (t - start)

-- the least of those moments, where it is a time; and nothing where none of them is a time
abbrev pub IsNextDue : ClockState → Option ℕ → Type 0
IsNextDue clock None = (t : ℕ) → IsToCome clock t → latest < t
IsNextDue clock (Some t) = IsToCome clock t × (t ≤ latest) × ((s : ℕ) → IsToCome clock s → t ≤ s)

-- the first deadline after what is passed, as the list of steps takes it
abbrev pub first_to_come : ClockState → Option ℕ
first_to_come clock =
    option_and_then (λ start. option_and_then (λ t. up_to_latest (start + t)) (first_after clock.rates (clock.passed - start))) clock.start

-- what holds of every clock: once it has started, the start is passed, what is passed is a time, and the rates are rates
abbrev pub IsClock : ClockState → Type 0
IsClock clock = (start : ℕ) → clock.start ≡ Some start → (start ≤ clock.passed) × (clock.passed ≤ latest) × AreRates clock.rates
