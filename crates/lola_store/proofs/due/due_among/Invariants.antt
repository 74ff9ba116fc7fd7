use Rattle.std.proofs.Common.{◌≡◌, drop}
use Rattle.lola_model.specs.NextStep.{earlier}
use Rattle.lola_store.specs.Dues.{if_time, due_of_lives}
use Rattle.lola_store.proofs.due.due_among.Given as goal

abbrev pub invariant-loop-x : goal.invariant-loop-x
invariant-loop-x l = earlier l.due (if_time (due_of_lives l.rates l.from (drop l.x-index l.lives))) ≡ if_time (due_of_lives l.rates l.from l.lives)
