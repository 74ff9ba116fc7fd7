-- The bounds of a specification.
use Rattle.std.specs.Prelude.{ℕ, ◌≡◌, ◌≤◌, List, Some, length, slice_get}
use Rattle.lola_model.specs.Bounds.{IsKept}
use Rattle.lola_model.specs.declared.pacing.ClausePacings.{ClausePacings}
use Rattle.lola_model.specs.declared.plan.PaneSize.{PaneSize}
use Rattle.lola_model.specs.declared.spec.Spec.{Spec}
use Rattle.lola_model.specs.declared.spec.WindowSpec.{WindowSpec}
use Rattle.lola_bounds.specs.Panes.{ArePanesOfWindow}

-- what is kept of each stream and the panes of each window, as a plan has them
pub record AreBounds (spec : Spec) (pacings : List ClausePacings) (kept : List ℕ) (panes : List PaneSize) : Type 0 where
  pub kept_count : length kept ≡ length spec.streams
  pub kept_each : (n k : ℕ) → slice_get kept n ≡ Some k → IsKept spec n k
  pub pane_count : length panes ≡ length spec.windows
  pub pane_each : (i : ℕ) (w : WindowSpec) → slice_get spec.windows i ≡ Some w → ArePanesOfWindow pacings w (slice_get panes i)
  pub pane_few : (i : ℕ) (p : PaneSize) → slice_get panes i ≡ Some p → p.count ≤ 65536
