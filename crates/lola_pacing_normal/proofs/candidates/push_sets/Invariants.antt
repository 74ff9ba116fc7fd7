use Rattle.std.proofs.Common.{◌≡◌, ◌++◌, map, take}
use Rattle.lola_pacing_normal.specs.Kept.{candidate_of}
use Rattle.lola_pacing_normal.proofs.candidates.push_sets.Given as goal

abbrev pub invariant-loop-set : goal.invariant-loop-set
invariant-loop-set l = l.to.items ≡ l.initial.to.items ++ map candidate_of (take l.set-index l.sets)
