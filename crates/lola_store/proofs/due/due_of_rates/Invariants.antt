use Rattle.std.proofs.Common.{◌≡◌, drop}
use Rattle.lola_model.specs.NextStep.{earlier, first_due}
use Rattle.lola_store.specs.Dues.{if_time}
use Rattle.lola_store.proofs.due.due_of_rates.Given as goal

abbrev pub invariant-loop-rate : goal.invariant-loop-rate
invariant-loop-rate l = earlier l.due (if_time (first_due l.counted (drop l.rate-index l.rates) l.from)) ≡ if_time (first_due l.counted l.rates l.from)
