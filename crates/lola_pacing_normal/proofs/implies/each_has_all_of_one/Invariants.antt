use Rattle.std.proofs.Common.{◌≡◌, true, take, All}
use Rattle.lola_model.specs.Activity.{satisfies_some}
use Rattle.lola_model.specs.declared.pacing.InputSet.{InputSet}
use Rattle.lola_pacing_normal.proofs.implies.each_has_all_of_one.Given as goal

abbrev pub invariant-loop-set : goal.invariant-loop-set
invariant-loop-set l = All (λ (s : InputSet). satisfies_some s.0 l.others ≡ true) (take l.set-index l.sets)
