-- What the compiler promises of a plan.
use Rattle.std.specs.Prelude.{◌≡◌, length}
use Rattle.lola_model.specs.Accepted.{HasLayers, IsAcyclic, IsOrderly}
use Rattle.lola_model.specs.Bounds.{HasBounds}
use Rattle.lola_model.specs.NextStep.{HasRates}
use Rattle.lola_model.specs.Runs.{HasModelsOfRuns}
use Rattle.lola_model.specs.Graph.{edges_of}
use Rattle.lola_model.specs.Model.{HasOneModel}
use Rattle.lola_model.specs.Named.{IsNamed}
use Rattle.lola_model.specs.Nodes.{node_count}
use Rattle.lola_model.specs.Pacings.{ArePacings}
use Rattle.lola_model.specs.Typed.{IsTyped}
use Rattle.lola_model.specs.declared.plan.Plan.{Plan}

-- its names are resolved and its kinds filled in, each clause has the pacing that is written or found and nothing of that is
-- refused, no closed walk has weight 0, and the layers, kept values and panes are those of the language; the list of layers ends
-- with the greatest node that stands in an edge
pub record IsAccepted (plan : Plan) : Type 0 where
  pub named : IsNamed plan.spec
  pub typed : IsTyped plan.spec
  pub paced : ArePacings plan.spec plan.pacings
  pub acyclic : IsAcyclic plan.spec
  pub layers : HasLayers plan
  pub layer_count : length plan.layers ≡ node_count (edges_of plan.spec)
  pub bounds : HasBounds plan
  -- each rate is above 0, as the type of rates has it
  pub rates : HasRates plan.pacings

-- what an accepted plan has: it is orderly, and so it has one model over each list of steps and over each journal
pub record HasModelOfAccepted (plan : Plan) : Type 0 where
  pub orderly : IsOrderly plan
  pub one : HasOneModel plan
  pub runs : HasModelsOfRuns plan
