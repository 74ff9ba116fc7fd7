use Rattle.std.proofs.Common.{◌≡◌, ◌≤◌, drop, min}
use Rattle.lola_model.specs.StepOrder.{AreRates}
use Rattle.lola_instances_one.specs.Moments.{due_at, after_latest}
use Rattle.lola_instances_one.proofs.due.next_due.Given as goal

abbrev pub invariant-loop-rate : goal.invariant-loop-rate
invariant-loop-rate l = record {
  within : l.least ≤ after_latest;
  least : min l.least (due_at (drop l.rate-index l.rates) l.born l.from) ≡ due_at l.rates l.born l.from;
  rates : AreRates (drop l.rate-index l.rates) → AreRates l.rates;
}
