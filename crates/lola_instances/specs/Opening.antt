-- A new store.
use Rattle.std.specs.Prelude.{ℕ, ◌≡◌, ◌≤◌, ◌<◌, ◌*◌, ◌+◌, List, [], ◌∷◌, ◌++◌, take, Some, false, IsTrue, drop, length, nat_eq, slice_get, unwrap_or, if◌then◌else◌}
use Rattle.lola_value.specs.declared.value.Kind.{Kind}
use Rattle.lola_value.specs.Naming.{Naming}
use Rattle.lola_model.specs.Store.{StreamLayout, kind_in, layout_of, opened}
use Rattle.lola_model.specs.Typing.{takes}
use Rattle.lola_model.specs.declared.plan.PaneSize.{PaneSize}
use Rattle.lola_model.specs.declared.plan.Plan.{Plan}
use Rattle.lola_model.specs.declared.spec.WindowSpec.{WindowSpec}
use Rattle.lola_instances_one.specs.declared.window.WindowPanes.{WindowPanes}
use Rattle.lola_instances_stream.specs.Crowds.{Crowd, crowd_seen, RemembersAt}
use Rattle.lola_instances_stream.specs.Each.{Each}
use Rattle.lola_instances_stream.specs.Rights.{CrowdRight}

-- a window has so many panes of some length, which make up its own
pub record IsCut (w : WindowSpec) (p : PaneSize) : Type 0 where
  pub pane : 1 ≤ p.pane
  pub count : 1 ≤ p.count
  pub over : p.count * p.pane ≡ w.over

-- what of an accepted plan a store stands on: each window's target has a kind that its aggregation takes, a stream
-- without a spawn clause has no parameters, each stream keeps a value, and each window is cut into panes
pub record IsStorable (plan : Plan) : Type 0 where
  pub taken : Each (λ (w : WindowSpec). IsTrue (takes w.using (kind_in (slice_get (layout_of plan).streams w.target)))) (layout_of plan).windows
  pub plain : Each (λ (s : StreamLayout). s.spawns ≡ false → s.parameters ≡ []) (layout_of plan).streams
  pub kept : Each (λ (s : StreamLayout). 1 ≤ s.kept) (layout_of plan).streams
  pub sizes : length plan.panes ≡ length plan.spec.windows
  pub cut : (i : ℕ) (w : WindowSpec) (p : PaneSize) → slice_get plan.spec.windows i ≡ Some w → slice_get plan.panes i ≡ Some p → IsCut w p

-- the panes of a window
abbrev pub panes_for : Kind → WindowSpec → PaneSize → WindowPanes
panes_for kind w p = record { aggregation = w.using; kind = kind; pane = p.pane; count = p.count; exact = w.exact }

-- the first of some sizes
abbrev pub first_size : List PaneSize → PaneSize
first_size ps = unwrap_or (slice_get ps 0) (record { pane = 1; count = 1 })

-- the panes of a window, if it is onto stream n
abbrev pub one_onto : ℕ → Kind → WindowSpec → PaneSize → List WindowPanes
one_onto n kind w p = if nat_eq w.target n then panes_for kind w p ∷ [] else []

-- the panes of the windows onto stream n, in the order of the windows
abbrev pub onto : ℕ → Kind → List WindowSpec → List PaneSize → List WindowPanes
onto n kind [] ps = []
onto n kind (w ∷ ws) ps = one_onto n kind w (first_size ps) ++ onto n kind ws (drop 1 ps)

-- how many of these windows are onto stream n
abbrev pub count_onto : ℕ → List WindowSpec → ℕ
count_onto n [] = 0
count_onto n (w ∷ ws) = (if nat_eq w.target n then 1 else 0) + count_onto n ws

-- each window's place is the number of windows onto its target before it
pub record ArePlaces (ws : List WindowSpec) (places : List ℕ) : Type 0 where
  pub count : length places ≡ length ws
  pub each : (i : ℕ) (w : WindowSpec) → slice_get ws i ≡ Some w → slice_get places i ≡ Some (count_onto w.target (take i ws))

-- stream n of a new store
pub record IsOpened (ws : List WindowSpec) (sizes : List PaneSize) (n : ℕ) (c : Crowd) : Type 0 where
  pub windows : c.windows ≡ onto n c.layout.kind ws sizes
  pub seen : crowd_seen 1 c ≡ opened c.layout
  pub right : (c.layout.spawns ≡ false → c.layout.parameters ≡ []) → CrowdRight false false 1 0 c
  pub past : (start time : ℕ) (names : Naming) (i : ℕ) → i < length c.slots → RemembersAt start time 1 names (slice_get c.slots i) []
