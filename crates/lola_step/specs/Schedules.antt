-- Which streams have a duty in a step, and when.
use Rattle.std.specs.Prelude.{ℕ, ◌≡◌, ◌+◌, List, [], ◌∷◌, Some, Bool, not, ◌&&◌, true, false, if◌then◌else◌, nat_eq, slice_get}
use Rattle.lola_value.specs.declared.value.Kind.{Kind}
use Rattle.lola_model.specs.Graph.{eval_node, layer_of, spawn_node}
use Rattle.lola_model.specs.Model.{is_input}
use Rattle.lola_model.specs.Named.{has_clause}
use Rattle.lola_model.specs.declared.plan.Plan.{Plan}
use Rattle.lola_model.specs.declared.spec.Stream.{Stream}
use Rattle.lola_model.specs.declared.journal.Show.TheVariants.{Outputs, Triggers}
use Rattle.lola_step.specs.Found.{is_hidden}
use Rattle.lola_step.specs.declared.schedule.LayerDuties.{LayerDuties}
use Rattle.lola_step.specs.declared.schedule.Schedule.{Schedule}
use Rattle.lola_step.specs.declared.schedule.Duty.{Duty}
use Rattle.lola_step.specs.declared.schedule.Duty.TheVariants as duty

-- the numbers, from n on, of those of these streams that pass a test
abbrev pub numbers_of : (ℕ → Stream → Bool) → ℕ → List Stream → List ℕ
numbers_of test n [] = []
numbers_of test n (x ∷ xs) = if test n x then n ∷ numbers_of test (n + 1) xs else numbers_of test (n + 1) xs

-- there are some
abbrev pub are_some : List Kind → Bool
are_some [] = false
are_some (k ∷ ks) = true

-- a stream has parameters
abbrev pub has_parameters : Stream → Bool
has_parameters x = are_some x.parameters

-- whether stream n has a duty: as an input, as one with a spawn clause, by that clause or by its instances in a layer, as one of these that has
-- parameters, by its close clause, and as one whose values may have lines
abbrev pub has_duty : Plan → Duty → ℕ → Stream → Bool
has_duty plan duty.Input n x = is_input x
has_duty plan duty.AnySpawn n x = has_clause x.spawn
has_duty plan (duty.Spawn layer) n x = has_clause x.spawn && nat_eq (layer_of plan.layers (spawn_node n)) layer
has_duty plan (duty.Eval layer) n x = not (is_input x) && nat_eq (layer_of plan.layers (eval_node n)) layer
has_duty plan (duty.Seek layer) n x = has_parameters x && (not (is_input x) && nat_eq (layer_of plan.layers (eval_node n)) layer)
has_duty plan duty.Close n x = has_clause x.close
has_duty plan (duty.Shown show) n x = not (is_hidden show x)

-- the streams of a plan that have it, by their numbers
abbrev pub duties_of : Plan → Duty → List ℕ
duties_of plan t = numbers_of (has_duty plan t) 0 plan.spec.streams

-- the duties of a layer
pub record IsLayerOf (plan : Plan) (layer : ℕ) (l : LayerDuties) : Type 0 where
  pub spawns : l.spawns.items ≡ duties_of plan (duty.Spawn layer)
  pub evals : l.evals.items ≡ duties_of plan (duty.Eval layer)
  pub seeks : l.seeks.items ≡ duties_of plan (duty.Seek layer)

-- the duties of a plan
pub record IsScheduleOf (plan : Plan) (s : Schedule) : Type 0 where
  pub inputs : s.inputs.items ≡ duties_of plan duty.Input
  pub births : s.births.items ≡ duties_of plan duty.AnySpawn
  pub layers : (layer : ℕ) (l : LayerDuties) → slice_get s.layers.items layer ≡ Some l → IsLayerOf plan layer l
  pub closes : s.closes.items ≡ duties_of plan duty.Close
  pub triggers : s.triggers.items ≡ duties_of plan (duty.Shown Triggers)
  pub outputs : s.outputs.items ≡ duties_of plan (duty.Shown Outputs)
