use Rattle.std.proofs.Common.{◌≡◌, drop}
use Rattle.lola_model.specs.Dues.{is_due}
use Rattle.lola_store.proofs.due.is_due.Given as goal

abbrev pub invariant-loop-rate : goal.invariant-loop-rate
invariant-loop-rate l = is_due (drop l.rate-index l.rates) l.born l.time ≡ is_due l.rates l.born l.time
