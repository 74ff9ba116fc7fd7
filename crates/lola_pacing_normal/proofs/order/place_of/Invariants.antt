use Rattle.std.proofs.Common.{take, All}
use Rattle.lola_model.specs.InputOrder.{HasLeastOther}
use Rattle.lola_model.specs.declared.pacing.InputSet.{InputSet}
use Rattle.lola_pacing_normal.proofs.order.place_of.Given as goal

abbrev pub invariant-loop-place : goal.invariant-loop-place
invariant-loop-place l = All (λ (s : InputSet). HasLeastOther s l.set) (take l.place l.sets)
