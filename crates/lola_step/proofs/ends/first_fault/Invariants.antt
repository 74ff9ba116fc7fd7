use Rattle.std.proofs.Common.{◌≡◌, drop}
use Rattle.lola_step.specs.Found.{first_among}
use Rattle.lola_step.proofs.ends.first_fault.Given as goal

-- no stream so far has a fault
abbrev pub invariant-loop-n : goal.invariant-loop-n
invariant-loop-n l = first_among l.results l.n (drop l.n l.spawn_results) (drop l.n l.spans) ≡ first_among l.results 0 l.spawn_results l.spans
