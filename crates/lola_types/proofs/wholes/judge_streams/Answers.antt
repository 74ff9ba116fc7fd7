use Rattle.std.proofs.Common.{ap, sym, ◌∙◌, refl, ◌≡◌, ◌+◌, length, drop, arith, flat_map, slice_get, unwrap_or, None}
use Rattle.lola_value.specs.declared.value.Kind.TheVariants as kind
use Rattle.lola_model.specs.Wholes.{stream_wholes, wholes_from}
use Rattle.lola_types.specs.Around.{setting}
use Rattle.lola_types.specs.Refused.{with_more, refusals_of_whole}
use Rattle.lola_types.proofs.WholeLemmas.{stream_step, at_end}
use Rattle.lola_types.proofs.wholes.judge_streams.Goals as goal

pub loop-number-preserved : goal.loop-number-preserved
loop-number-preserved c =
    let e : c.judge_stream.new.refusals ≡ with_more c.loop-number.refusals (flat_map (refusals_of_whole (setting c.args.around.now)) (stream_wholes c.loop-number.number c.stream-item.result (unwrap_or (unwrap_or (slice_get c.args.around.now.kinds.now c.loop-number.number) None) kind.Int64))) =
    cc (c.stream_kind-kind.ensures, c.judge_stream.ensures c.loop-number.number) in
    c.loop-number.invariant
    ∙ (stream_step c.loop-number.refusals (setting c.args.around.now) c.args.around.now.kinds.now c.args.around.now.streams.now c.loop-number.number c.stream-item.result c.loop-number-test.true c.stream-item.is
    ∙ ap (λ z. with_more z (flat_map (refusals_of_whole (setting c.args.around.now)) (wholes_from (c.loop-number.number + 1) (drop (c.loop-number.number + 1) c.args.around.now.streams.now) (drop (c.loop-number.number + 1) c.args.around.now.kinds.now)))) (sym e))

pub returns : goal.returns
returns c =
    let h : c.loop-number.number ≡ length c.args.around.now.streams.now = omega (arith, c.loop-number-test.false, c.loop-number.auto) in
    sym (c.loop-number.invariant
    ∙ at_end (λ ss. flat_map (refusals_of_whole (setting c.args.around.now)) (wholes_from c.loop-number.number ss (drop c.loop-number.number c.args.around.now.kinds.now))) c.loop-number.refusals c.args.around.now.streams.now c.loop-number.number h refl)
