-- Windows that have panes.
use Rattle.std.specs.Prelude.{ℕ, ◌≡◌, ◌%◌, ◌<◌, ◌≤◌, List, Option, Some, None, All, slice_get}
use Rattle.lola_value.specs.Ratio.{Ratio}
use Rattle.lola_value.specs.Rate.{period_over}
use Rattle.lola_model.specs.Bounds.{ArePanes, ArePanesOf, pacing_at}
use Rattle.lola_model.specs.declared.spec.Spec.{Spec}
use Rattle.lola_model.specs.declared.spec.WindowSpec.{WindowSpec}
use Rattle.lola_model.specs.declared.pacing.Pacing.{Pacing}
use Rattle.lola_model.specs.declared.pacing.Pacing.TheVariants.{Event, Periodic, Local}
use Rattle.lola_model.specs.declared.pacing.ClausePacings.{ClausePacings}
use Rattle.lola_model.specs.declared.plan.PaneSize.{PaneSize}

-- the rate of a pacing, if it is one
abbrev pub rate_of : Option Pacing → Option Ratio
rate_of (Some (Periodic r)) = Some r
rate_of (Some (Event sets)) = None
rate_of (Some (Local r)) = None
rate_of None = None

-- a window in a clause of this rate has panes, and not too many: the period is a whole number of nanoseconds,
-- the length is above 0, and at most 65,536 panes make it
pub record HasFewPanes (r : Ratio) (over : ℕ) : Type 0 where
  pub whole : period_over r % r.num ≡ 0
  pub some : 0 < over
  pub few : (p : PaneSize) → ArePanes r over p → p.count ≤ 65536

-- the clause of a window is periodic, and the window has panes
pub record IsPaned (pacings : List ClausePacings) (window : WindowSpec) : Type 0 where
  pub rate : Ratio
  pub periodic : pacing_at pacings window.stream window.part ≡ Some (Periodic rate)
  pub panes : HasFewPanes rate window.over

-- so has each window of a specification
abbrev pub ArePaned : List ClausePacings → Spec → Type 0
ArePaned pacings spec = All (IsPaned pacings) spec.windows

-- these are the panes of a window
abbrev pub ArePanesOfWindow : List ClausePacings → WindowSpec → Option PaneSize → Type 0
ArePanesOfWindow pacings w p = ArePanesOf (pacing_at pacings w.stream w.part) w.over p

-- these are the panes of the window of this number
abbrev pub ArePanesAt : List ClausePacings → Spec → ℕ → PaneSize → Type 0
ArePanesAt pacings spec i p = (w : WindowSpec) → slice_get spec.windows i ≡ Some w → ArePanesOfWindow pacings w (Some p)
