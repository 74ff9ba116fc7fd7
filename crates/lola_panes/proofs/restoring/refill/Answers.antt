use Rattle.std.proofs.Common.{◌≡◌, ◌∙◌, ◌+◌, ◌++◌, ℤ, ◌+ℤ◌, FitsSigned, arith, ap, subst, to_z, of_z}
use Rattle.std.proofs.lemmas.Int.{to_z-of_z}
use Rattle.std.specs.List.{sum_by}
use mir.Syntax.{w128}
use mir.Val.{SFits}
use Rattle.circular_buffer.specs.Buffer.{Buffer}
use Rattle.lola_panes.specs.declared.pane.Pane.{Pane}
use Rattle.lola_panes.specs.Parts.{counted, totalled}
use Rattle.lola_panes.specs.Restored.{restored_pane}
use Rattle.lola_panes.proofs.Refilling.{refilled_next, count_fits, total_fits}
use Rattle.lola_panes.proofs.restoring.refill.Goals as goal

pub counted-count-requires : goal.counted-count-requires
counted-count-requires c =
    let l = count_fits c.args.aggregation c.loop-i.count (c.args.before + sum_by (counted c.args.aggregation) c.args.partials.now) c.loop-i.i c.args.partials.now c.at-q.result c.at-q.ensures c.loop-i.invariant.1.counts in
    let r = c.requires.counts in
    omega arith

pub overflow_add-count : goal.overflow_add-count
overflow_add-count c =
    let l = count_fits c.args.aggregation c.loop-i.count (c.args.before + sum_by (counted c.args.aggregation) c.args.partials.now) c.loop-i.i c.args.partials.now c.at-q.result c.at-q.ensures c.loop-i.invariant.1.counts in
    let r = c.requires.counts in
    let e = c.counted-count.ensures in
    omega arith

pub loop-i-preserved : goal.loop-i-preserved
loop-i-preserved c =
    let how = c.args.aggregation in
    let ps = c.args.partials.now in
    let q = c.at-q.result in
    let h = c.loop-i.invariant.1 in
    let z = c.plus-total.result in
    let fq : SFits w128 c.totalled.result = record { sfits = c.totalled.type_inv } in
    let fz : SFits w128 z = record { sfits = c.plus-total.type_inv } in
    let t = to_z w128 c.loop-i.total-bits in
    let eq = to_z-of_z w128 c.totalled.result fq ∙ c.totalled.ensures in
    let plus : z ≡ t +ℤ totalled how q =
    subst (λ (y : ℤ). FitsSigned w128 y → z ≡ y) (λ i. t +ℤ eq i) c.plus-total.ensures
    (total_fits how c.args.first c.args.before c.loop-i.count t c.loop-i.i c.loop-i.ring.items ps q c.at-q.ensures c.requires.totals h) in (
      ap (λ (b : Buffer Pane). b.capacity) c.put.ensures ∙ c.loop-i.invariant.0,
      refilled_next how c.args.first c.args.before c.loop-i.count (c.loop-i.count + c.counted-count.result) t (to_z w128 (of_z w128 z)) c.loop-i.i c.loop-i.ring.items c.put.new.ring.items ps q c.at-q.ensures
          (ap (λ (b : Buffer Pane). b.items) c.put.ensures ∙ (λ i. c.loop-i.ring.items ++ restored_pane (c.args.first + c.loop-i.i) c.loop-i.count t (c.extreme_in.ensures i)))
          (ap (λ n. c.loop-i.count + n) c.counted-count.ensures) (to_z-of_z w128 z fz ∙ plus) h,
    )
