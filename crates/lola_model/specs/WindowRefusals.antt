-- What stands against windows.
use Rattle.std.specs.Prelude.{ℕ, ◌≡◌, ◌<◌, ◌≤◌, ◌*◌, ◌/◌, ◌%◌, Option, Some, None}
use Rattle.std.specs.Int.{IsGcd}
use Rattle.lola_value.specs.Rate.{period_over}
use Rattle.lola_value.specs.Ratio.{Ratio}
use Rattle.lola_value.specs.declared.front.Code.{Code}
use Rattle.lola_value.specs.declared.front.Code.TheVariants as code
use Rattle.lola_model.specs.declared.pacing.Pacing.TheVariants.{Event, Periodic, Local}
use Rattle.lola_model.specs.declared.finding.FoundPacing.{FoundPacing}
use Rattle.lola_model.specs.declared.finding.FoundPacing.TheVariants.{Paced, Refused, Unpaced}

-- the period is a whole number of nanoseconds
abbrev pub IsWholePeriod : Ratio → Type 0
IsWholePeriod r = period_over r % r.num ≡ 0

-- a window's panes are as long as this: the greatest common divisor of its length and the period
abbrev pub IsPaneOf : Ratio → ℕ → ℕ → Type 0
IsPaneOf r over pane = IsGcd (period_over r / r.num) over pane

-- it has more than 65,536 panes
pub record IsTooFine (r : Ratio) (over : ℕ) : Type 0 where
  pub whole : IsWholePeriod r
  pub pane : ℕ
  pub is_pane : IsPaneOf r over pane
  pub many : 65536 * pane < over

-- it has at most so many
pub record IsFineEnough (r : Ratio) (over : ℕ) : Type 0 where
  pub whole : IsWholePeriod r
  pub pane : ℕ
  pub is_pane : IsPaneOf r over pane
  pub few : over ≤ 65536 * pane

-- in a clause of this rate: E18, E16, or nothing stands against it
abbrev pub IsRateRefusal : Ratio → ℕ → Option Code → Type 0
IsRateRefusal r over (Some code.WindowNeedsWholePeriod) = ¬ (IsWholePeriod r)
IsRateRefusal r over (Some code.WindowTooFine) = IsTooFine r over
IsRateRefusal r over None = IsFineEnough r over
IsRateRefusal r over _ = ⊥

-- a window of this length in a clause of which that is found: E15 in one that goes by inputs, and nothing in one without a pacing
abbrev pub IsWindowRefusal : FoundPacing → ℕ → Option Code → Type 0
IsWindowRefusal (Paced (Event sets)) over verdict = verdict ≡ Some code.WindowOutsidePeriodic
IsWindowRefusal (Paced (Periodic r)) over verdict = IsRateRefusal r over verdict
IsWindowRefusal (Paced (Local r)) over verdict = verdict ≡ Some code.WindowOutsidePeriodic
IsWindowRefusal (Refused r) over verdict = verdict ≡ None
IsWindowRefusal Unpaced over verdict = verdict ≡ None
