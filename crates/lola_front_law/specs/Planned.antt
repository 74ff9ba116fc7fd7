-- What stands behind the kinds of a specification is there: pacings or a refusal for them, layers or a closed walk, kept values and
-- panes.
use Rattle.std.specs.Prelude.{ℕ, ◌≡◌, ◌⊎◌, List, Some, IsTrue, length}
use Rattle.lola_value.specs.declared.front.Refusal.{Refusal}
use Rattle.lola_bounds.specs.Bounds.{AreBounds}
use Rattle.lola_bounds.specs.Panes.{ArePaned}
use Rattle.lola_graph.specs.Cycle.{IsLeastOnCycle}
use Rattle.lola_graph.specs.Small.{is_small_graph}
use Rattle.lola_model.specs.Graph.{IsLayer, IsOnZeroWalk, layer_of}
use Rattle.lola_model.specs.Named.{IsNamed}
use Rattle.lola_model.specs.NextStep.{HasRates}
use Rattle.lola_model.specs.Nodes.{node_count}
use Rattle.lola_model.specs.Pacings.{ArePacings, IsRefused}
use Rattle.lola_model.specs.declared.graph.Edge.{Edge}
use Rattle.lola_model.specs.declared.pacing.ClausePacings.{ClausePacings}
use Rattle.lola_model.specs.declared.plan.PaneSize.{PaneSize}
use Rattle.lola_model.specs.declared.spec.Spec.{Spec}
use Rattle.lola_front_law.specs.Rated.{AreRated}

-- the pacings of a specification, each rate of which is a rate
pub record HasPacings (spec : Spec) : Type 0 where
  pub pacings : List ClausePacings
  pub are : ArePacings spec pacings
  pub rates : HasRates pacings

-- a specification whose names are resolved, and whose written rates are rates, has pacings or a refusal for them
abbrev pub FindsPacings : Type 0
FindsPacings = (spec : Spec) → IsNamed spec → AreRated spec.streams → HasPacings spec ⊎ ((r : Refusal) × IsRefused spec r)

-- the layers of a graph without a closed walk of weight 0
pub record HasLayers (edges : List Edge) : Type 0 where
  pub layers : List ℕ
  pub acyclic : (n : ℕ) → ¬ (IsOnZeroWalk edges n)
  pub each : (n : ℕ) → IsLayer edges n (layer_of layers n)
  pub count : length layers ≡ node_count edges

-- the graph of a specification of at most 1,024 streams has layers, or a least stream on a closed walk of weight 0
abbrev pub FindsLayers : Type 0
FindsLayers = (edges : List Edge) → IsTrue (is_small_graph edges) → HasLayers edges ⊎ ((stream : ℕ) × IsLeastOnCycle edges (Some stream))

-- so many values are kept of each stream, and each window has panes, where each stands in a clause of a rate
abbrev pub FindsBounds : Type 0
FindsBounds = (spec : Spec) (pacings : List ClausePacings) → ArePaned pacings spec → (kept : List ℕ) × (panes : List PaneSize) × AreBounds spec pacings kept panes
