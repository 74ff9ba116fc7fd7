use Rattle.std.proofs.Common.{◌≡◌, ℕ, ◌<◌, Some, length, slice_get, take}
use Rattle.lola_model.specs.declared.spec.WindowSpec.{WindowSpec}
use Rattle.lola_instances.specs.Opening.{count_onto}
use Rattle.lola_instances.proofs.opening.places_of.Given as goal

abbrev pub invariant-loop-i : goal.invariant-loop-i
invariant-loop-i l = record {
  count : length l.made.items ≡ l.i;
  each : (j : ℕ) (w : WindowSpec) → j < l.i → slice_get l.windows j ≡ Some w → slice_get l.made.items j ≡ Some (count_onto w.target (take j l.windows));
}
