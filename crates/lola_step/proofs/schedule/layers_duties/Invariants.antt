use Rattle.std.proofs.Common.{◌≡◌, ℕ, Some, length, slice_get}
use Rattle.lola_step.specs.Schedules.{IsLayerOf}
use Rattle.lola_step.specs.declared.schedule.LayerDuties.{LayerDuties}
use Rattle.lola_step.proofs.schedule.layers_duties.Given as goal

-- so many layers have their duties
abbrev pub invariant-loop-layer : goal.invariant-loop-layer
invariant-loop-layer l = record {
  count : length l.layers.items ≡ l.layer;
  each : (layer : ℕ) (x : LayerDuties) → slice_get l.layers.items layer ≡ Some x → IsLayerOf l.plan layer x;
}
