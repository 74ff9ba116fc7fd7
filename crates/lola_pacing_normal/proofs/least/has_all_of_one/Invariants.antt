use Rattle.std.proofs.Common.{◌≡◌, drop}
use Rattle.lola_model.specs.Activity.{satisfies_some}
use Rattle.lola_pacing_normal.proofs.least.has_all_of_one.Given as goal

abbrev pub invariant-loop-set : goal.invariant-loop-set
invariant-loop-set l = satisfies_some l.inputs l.sets ≡ satisfies_some l.inputs (drop l.set-index l.sets)
