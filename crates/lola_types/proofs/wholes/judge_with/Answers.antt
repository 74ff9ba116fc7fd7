use Rattle.std.proofs.Common.{ap, sym, ◌∙◌, refl, ◌≡◌, ◌+◌, length, drop, arith, flat_map, slice_get, unwrap_or}
use Rattle.lola_value.specs.declared.value.Kind.TheVariants as kind
use Rattle.lola_model.specs.Wholes.{with_wholes}
use Rattle.lola_types.specs.Around.{setting}
use Rattle.lola_types.specs.Refused.{with_more, whole_refusals, with_parameters, refusals_of_whole}
use Rattle.lola_types.proofs.WholeLemmas.{with_step, at_end}
use Rattle.lola_types.proofs.wholes.judge_with.Goals as goal

pub loop-number-preserved : goal.loop-number-preserved
loop-number-preserved c =
    let e : c.judge_whole.new.refusals ≡ with_more c.loop-number.refusals (whole_refusals (with_parameters (setting c.args.around.now) c.args.parameters.now) (unwrap_or (slice_get c.args.wants.now c.loop-number.number) kind.Int64) (unwrap_or (slice_get c.args.places.now c.loop-number.number) 0) c.index-exprs-number.result) =
    cc (c.kind_at-want.ensures, c.place_at-at.ensures, c.judge_whole.ensures, c.within-inner.ensures) in
    λ n p. c.loop-number.invariant n p
    ∙ (with_step c.loop-number.refusals (setting c.args.around.now) n p c.args.parameters.now c.args.wants.now c.args.places.now c.args.exprs.now c.loop-number.number c.index-exprs-number.result c.loop-number-test.true c.index-exprs-number.is
    ∙ ap (λ z. with_more z (flat_map (refusals_of_whole (setting c.args.around.now)) (with_wholes n p c.args.parameters.now (drop (c.loop-number.number + 1) c.args.wants.now) (drop (c.loop-number.number + 1) c.args.places.now) (drop (c.loop-number.number + 1) c.args.exprs.now)))) (sym e))

pub returns : goal.returns
returns c =
    let h : c.loop-number.number ≡ length c.args.exprs.now = omega (arith, c.loop-number-test.false, c.loop-number.auto) in
    λ n p. sym (c.loop-number.invariant n p
    ∙ at_end (λ es. flat_map (refusals_of_whole (setting c.args.around.now)) (with_wholes n p c.args.parameters.now (drop c.loop-number.number c.args.wants.now) (drop c.loop-number.number c.args.places.now) es)) c.loop-number.refusals c.args.exprs.now c.loop-number.number h refl)
