use Rattle.std.proofs.Common.{ap, sym, ◌∙◌, refl, ◌≡◌, ◌+◌, length, drop, arith, flat_map}
use Rattle.lola_types.specs.Refused.{with_more, constant_refusals}
use Rattle.lola_types.proofs.WholeLemmas.{map_step, at_end}
use Rattle.lola_types.proofs.wholes.judge_constants.Goals as goal

pub loop-constant-preserved : goal.loop-constant-preserved
loop-constant-preserved c =
    c.loop-constant.invariant
    ∙ (map_step constant_refusals c.loop-constant.refusals c.args.constants.now c.loop-constant.constant-index _ c.loop-constant-test.true
    ∙ ap (λ z. with_more z (flat_map constant_refusals (drop (c.loop-constant.constant-index + 1) c.args.constants.now))) (sym c.judge_constant.ensures))

pub returns : goal.returns
returns c =
    let h : c.loop-constant.constant-index ≡ length c.args.constants.now = omega (arith, c.loop-constant-test.false, c.loop-constant.auto) in
    sym (c.loop-constant.invariant ∙ at_end (flat_map constant_refusals) c.loop-constant.refusals c.args.constants.now c.loop-constant.constant-index h refl)
