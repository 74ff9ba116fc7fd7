use Rattle.std.proofs.Common.{ℕ, ◌≡◌, drop, flat_map}
use Rattle.lola_model.specs.declared.spec.Part.{Part}
use Rattle.lola_model.specs.Wholes.{with_wholes}
use Rattle.lola_types.specs.Around.{setting}
use Rattle.lola_types.specs.Refused.{with_more, refusals_of_whole}
use Rattle.lola_types.proofs.wholes.judge_with.Given as goal

abbrev pub invariant-loop-number : goal.invariant-loop-number
invariant-loop-number l = (n : ℕ) (p : Part)
    → with_more l.initial.refusals (flat_map (refusals_of_whole (setting l.fn.around)) (with_wholes n p l.parameters l.wants l.places l.exprs))
    ≡ with_more l.refusals (flat_map (refusals_of_whole (setting l.fn.around)) (with_wholes n p l.parameters (drop l.number l.wants) (drop l.number l.places) (drop l.number l.exprs)))
