-- It is enough to know the rates of the others.
use Rattle.std.proofs.Common.{ℕ, drop}
use Rattle.std.specs.List.{slice_get}
use Rattle.lola_model.specs.StepOrder.{AreRates}
use Rattle.lola_model.specs.Steps.{rates_of}
use Rattle.lola_model.specs.NextStep.{local_rates}
use Rattle.lola_front.proofs.rates.of_streams.Given as goal

abbrev pub invariant-loop-pacings : goal.invariant-loop-pacings
invariant-loop-pacings l =
    (AreRates (rates_of (drop l.pacings-index l.streams)) → AreRates (rates_of l.streams))
    × (((n : ℕ) → AreRates (local_rates (slice_get (drop l.pacings-index l.streams) n))) → (n : ℕ) → AreRates (local_rates (slice_get l.streams n)))
