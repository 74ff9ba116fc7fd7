use Rattle.std.proofs.Common.{◌≡◌, ◌∙◌, ap, sym, true, false}
use Rattle.std.proofs.lemmas.Int.{to_z-of_z}
use mir.Syntax.{w128}
use mir.Val.{to_z, of_z}
use Rattle.circular_buffer.specs.Buffer.{Buffer, buffer, last_item}
use Rattle.lola_panes.specs.declared.pane.Pane.{Pane}
use Rattle.lola_panes.specs.Rings.{unbeaten, is_last_beaten}
use Rattle.lola_panes.proofs.Extremes.{one_beaten, none_beaten}
use Rattle.lola_panes.proofs.ring.drop_beaten.Goals as goal

pub loop-aggregation-preserved : goal.loop-aggregation-preserved
loop-aggregation-preserved c =
    let ring = c.loop-aggregation.ring in
    let z = to_z w128 (of_z w128 c.args.weight) in
    let h : is_last_beaten c.args.aggregation z (last_item ring.items) ≡ true = sym c.is_end_beaten.ensures ∙ c.loop-aggregation-test.true in
    ap (λ (b : Buffer Pane). buffer (unbeaten c.args.aggregation z b.items) b.capacity) c.pop_back.ensures.items
    ∙ (ap (λ rs. buffer rs ring.capacity) (one_beaten c.args.aggregation z ring.items h) ∙ c.loop-aggregation.invariant)

pub returns : goal.returns
returns c =
    let ring = c.loop-aggregation.ring in
    let z = to_z w128 (of_z w128 c.args.weight) in
    let h : is_last_beaten c.args.aggregation z (last_item ring.items) ≡ false = sym c.is_end_beaten.ensures ∙ c.loop-aggregation-test.false in
    ap (λ rs. buffer rs ring.capacity) (sym (none_beaten c.args.aggregation z ring.items h))
    ∙ (c.loop-aggregation.invariant ∙ ap (λ y. buffer (unbeaten c.args.aggregation y c.args.ring.now.items) c.args.ring.now.capacity) (to_z-of_z w128 c.args.weight c.ranges.weight))
