use Rattle.std.proofs.Common.{◌≡◌, ◌||◌, drop}
use Rattle.lola_step.specs.Found.{has_fault}
use Rattle.lola_step.proofs.giving.any_fault.Given as goal

abbrev pub invariant-loop-outcome : goal.invariant-loop-outcome
invariant-loop-outcome l = (l.faulty || has_fault (drop l.outcome-index l.results)) ≡ has_fault l.results
