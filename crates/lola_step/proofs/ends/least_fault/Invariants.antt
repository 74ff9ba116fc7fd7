use Rattle.std.proofs.Common.{◌≡◌, drop}
use Rattle.lola_step.specs.Found.{least_among, least_of}
use Rattle.lola_step.proofs.ends.least_fault.Given as goal

-- with those to come it is the least of all
abbrev pub invariant-loop-outcome : goal.invariant-loop-outcome
invariant-loop-outcome l = least_of l.least (least_among (drop l.outcome-index l.results)) ≡ least_among l.results
