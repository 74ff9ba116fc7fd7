use Rattle.std.proofs.Common.{ap, sym, ◌∙◌, refl, ◌≡◌, ◌+◌, length, drop, arith}
use Rattle.lola_types.specs.Refused.{with_more, range_refusals}
use Rattle.lola_types.proofs.WholeLemmas.{range_step, at_end}
use Rattle.lola_types.proofs.wholes.note_ranges.Goals as goal

pub loop-at-preserved : goal.loop-at-preserved
loop-at-preserved c = c.loop-at.invariant ∙ (range_step c.loop-at.refusals c.args.places.now c.loop-at.at-index _ c.loop-at-test.true ∙ ap (λ z. with_more z (range_refusals (drop (c.loop-at.at-index + 1) c.args.places.now))) (sym c.note.ensures))

pub returns : goal.returns
returns c =
    let h : c.loop-at.at-index ≡ length c.args.places.now = omega (arith, c.loop-at-test.false, c.loop-at.auto) in
    sym (c.loop-at.invariant ∙ at_end range_refusals c.loop-at.refusals c.args.places.now c.loop-at.at-index h refl)
