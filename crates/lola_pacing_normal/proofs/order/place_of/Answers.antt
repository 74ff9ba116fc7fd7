use Rattle.std.proofs.lemmas.List.Elements.{All-more}
use Rattle.lola_model.specs.declared.pacing.InputSet.{InputSet}
use Rattle.lola_model.specs.InputOrder.{HasLeastOther}
use Rattle.lola_pacing_normal.proofs.OrderLemmas.{before_the_rest}
use Rattle.lola_pacing_normal.proofs.order.place_of.Goals as goal

pub returns-then-has_least_other-clause-after : goal.returns-then-has_least_other-clause-after
returns-then-has_least_other-clause-after c =
    before_the_rest c.args.set c.args.sets.now c.loop-place.place _ c.loop-place-test.true c.requires.ordered c.if-has_least_other.ensures

pub loop-place-preserved : goal.loop-place-preserved
loop-place-preserved c =
    All-more (λ (s : InputSet). HasLeastOther s c.args.set) c.args.sets.now c.loop-place.place _ c.loop-place-test.true c.loop-place.invariant c.if-has_least_other.ensures
