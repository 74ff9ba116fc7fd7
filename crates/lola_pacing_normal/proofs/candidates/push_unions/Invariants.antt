use Rattle.std.proofs.Common.{◌≡◌, ◌++◌, map, take, bit_or}
use Rattle.lola_model.specs.declared.pacing.InputSet.{InputSet}
use Rattle.lola_pacing_normal.proofs.candidates.push_unions.Given as goal

abbrev pub invariant-loop-other : goal.invariant-loop-other
invariant-loop-other l = l.to.items ≡ l.initial.to.items ++ map (λ (t : InputSet). bit_or l.set.0 t.0) (take l.other-index l.others)
