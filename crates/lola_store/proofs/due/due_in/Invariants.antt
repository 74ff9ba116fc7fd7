use Rattle.std.proofs.Common.{◌≡◌, drop}
use Rattle.lola_model.specs.NextStep.{earlier}
use Rattle.lola_store.specs.Dues.{if_time, due_of_streams}
use Rattle.lola_store.proofs.due.due_in.Given as goal

abbrev pub invariant-loop-population : goal.invariant-loop-population
invariant-loop-population l = earlier l.due (if_time (due_of_streams l.from (drop l.population-index l.streams))) ≡ if_time (due_of_streams l.from l.streams)
