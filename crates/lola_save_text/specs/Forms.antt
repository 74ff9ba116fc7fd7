-- What of a plan its states depend on.
use Rattle.std.specs.Prelude.{ℕ, ◌≡◌, ◌+◌, ◌≤◌, List, [], ◌∷◌, ◌++◌, true, false, Some, None, drop, if◌then◌else◌, nat_eq, slice_get, unwrap_or}
use Rattle.lola_model.specs.Store.{StreamLayout, layout_of}
use Rattle.lola_model.specs.declared.plan.PaneSize.{PaneSize}
use Rattle.lola_model.specs.declared.plan.Plan.{Plan}
use Rattle.lola_model.specs.declared.spec.WindowSpec.{WindowSpec}
use Rattle.lola_model.specs.declared.spec.Stream.{Stream}
use Rattle.lola_model.specs.Model.{filled_kind}
pub use Rattle.lola_save_text.specs.declared.forms.WindowForm.{WindowForm}
pub use Rattle.lola_save_text.specs.declared.forms.StreamForm.{StreamForm}

-- the panes of the first of some windows
abbrev pub first_size : List PaneSize → PaneSize
first_size ps = unwrap_or (slice_get ps 0) (record { pane = 1; count = 1 })

-- a window, if it is onto stream n
abbrev pub one_onto : ℕ → ℕ → WindowSpec → PaneSize → List WindowForm
one_onto n number w p = if nat_eq w.target n then record { number = number; how = w.using; pane = p.pane; count = p.count } ∷ [] else []

-- the windows onto stream n in their order, where the first of these has this number
abbrev pub windows_onto : ℕ → ℕ → List WindowSpec → List PaneSize → List WindowForm
windows_onto n number [] ps = []
windows_onto n number (w ∷ ws) ps = one_onto n number w (first_size ps) ++ windows_onto n (number + 1) ws (drop 1 ps)

-- of streams in their order, where the first of these has number n
abbrev pub stream_forms : Plan → ℕ → List StreamLayout → List StreamForm
stream_forms plan n [] = []
stream_forms plan n (s ∷ ss) =
    record { kind = s.kind; parameters = s.parameters; spawns = s.spawns; kept = s.kept; windows = windows_onto n 0 plan.spec.windows plan.panes }
    ∷ stream_forms plan (n + 1) ss

-- of a stream of a plan, of whose values so many are kept
abbrev pub form_with : Plan → ℕ → Stream → ℕ → StreamForm
form_with plan n s kept = record {
  kind = filled_kind s;
  parameters = s.parameters;
  spawns = elim s.spawn [ None ↦ false | Some c ↦ true ];
  kept = kept;
  windows = windows_onto n 0 plan.spec.windows plan.panes;
}

-- of a plan
abbrev pub forms_of : Plan → List StreamForm
forms_of plan = stream_forms plan 0 (layout_of plan).streams

-- panes have a length
abbrev pub HaveLength : List WindowForm → Type 0
HaveLength [] = Unit {0}
HaveLength (w ∷ ws) = (1 ≤ w.pane) × HaveLength ws

-- what of an accepted plan the laws of state texts stand on: a stream without a spawn clause has no parameters, and panes
-- have a length
abbrev pub AreStorable : List StreamForm → Type 0
AreStorable [] = Unit {0}
AreStorable (s ∷ ss) = (s.spawns ≡ false → s.parameters ≡ []) × HaveLength s.windows × AreStorable ss
