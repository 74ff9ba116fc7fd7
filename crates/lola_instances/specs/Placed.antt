-- Where the panes of each window stand among those of its target.
use Rattle.std.specs.Prelude.{ℕ, ◌≡◌, ◌*◌, ◌<◌, List, Some, length, slice_get}
use Rattle.lola_value.specs.declared.value.Kind.{Kind}
use Rattle.lola_model.specs.declared.plan.PaneSize.{PaneSize}
use Rattle.lola_model.specs.declared.spec.WindowSpec.{WindowSpec}
use Rattle.lola_instances_one.specs.declared.window.WindowPanes.{WindowPanes}
use Rattle.lola_instances_stream.specs.Crowds.{Crowd}
use Rattle.lola_instances.specs.Opening.{count_onto}

-- panes of a window, onto values of a kind
pub record IsPaneOf (kind : Kind) (w : WindowSpec) (size : PaneSize) (q : WindowPanes) : Type 0 where
  pub aggregation : q.aggregation ≡ w.using
  pub kind_is : q.kind ≡ kind
  pub pane : q.pane ≡ size.pane
  pub count : q.count ≡ size.count
  pub over : q.count * q.pane ≡ w.over
  pub exact : q.exact ≡ w.exact

-- the panes of a window stand at a place of its target
pub record IsPlaced (w : WindowSpec) (size : PaneSize) (place : ℕ) (c : Crowd) : Type 0 where
  pub below : place < length c.windows
  pub is : (q : WindowPanes) → slice_get c.windows place ≡ Some q → IsPaneOf c.layout.kind w size q

-- each window has its size and its place
pub record ArePlaced (ws : List WindowSpec) (sizes : List PaneSize) (places : List ℕ) (cs : List Crowd) : Type 0 where
  pub size_count : length sizes ≡ length ws
  pub place_count : length places ≡ length ws
  pub each : (i : ℕ) (w : WindowSpec) (p : PaneSize) (k : ℕ) (c : Crowd) → slice_get ws i ≡ Some w → slice_get sizes i ≡ Some p → slice_get places i ≡ Some k
      → slice_get cs w.target ≡ Some c → IsPlaced w p k c

-- each stream has as many places as there are windows onto it
abbrev pub AreCovered : List WindowSpec → List Crowd → Type 0
AreCovered ws cs = (n : ℕ) (c : Crowd) → slice_get cs n ≡ Some c → length c.windows ≡ count_onto n ws
