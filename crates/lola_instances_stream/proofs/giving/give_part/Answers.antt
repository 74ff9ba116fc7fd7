-- One more cell is given its outcome.
use Rattle.std.proofs.Common.{◌∙◌, ℕ, ◌<◌, Option, length, arith, sym, subst, slice_get, get_or, set, below_more}
use Rattle.std.proofs.lemmas.List.{get_or-set_same, get_or-set_other, get_or_default, length-set}
use Rattle.lola_instances_one.specs.Holdings.{Holdings}
use Rattle.lola_instances_stream.specs.Cells.{IsSlotChanged}
use Rattle.lola_instances_stream.specs.Givings.{HasGivenAt, IsReadyAt}
use Rattle.lola_instances_stream.proofs.giving.give_part.Goals as goal

pub give_at-requires : goal.give_at-requires
give_at-requires c =
    let n = c.loop-number.number in let at = c.index-cells-number.result in
    subst (λ x. IsReadyAt c.args.offset (slice_get c.args.outcomes.now n) x)
    (sym (c.loop-number.invariant.others n at (omega arith))) (c.requires.each n at c.loop-number-test.true)

pub loop-number-preserved : goal.loop-number-preserved
loop-number-preserved c =
    let n = c.loop-number.number in let xs = c.args.cells.now in let ys = c.loop-number.cells in let y = c.give_at.new.slot in
    let R : ℕ → Option Holdings → Option Holdings → Type 0 = λ i. IsSlotChanged (HasGivenAt c.args.step c.args.offset (slice_get c.args.outcomes.now i)) in
    let within : n < length ys = omega (arith, c.loop-number-test.true, c.loop-number.auto.cells) in
    record {
      same_length = length-set ys n y ∙ c.loop-number.invariant.same_length;
      others = λ i d h. get_or-set_other ys n i y d (λ e. omega arith) ∙ c.loop-number.invariant.others i d (omega arith);
      given = λ i d h. below_more (λ k. R k (get_or xs k d) (get_or (set ys n y) k d)) n
          (λ k u. subst (R k (get_or xs k d)) (sym (get_or-set_other ys n k y d (λ e. omega arith))) (c.loop-number.invariant.given k d u))
          (subst (R n (get_or xs n d)) (sym (get_or-set_same ys n y d within))
          (subst (λ x. R n x y) (get_or_default ys n _ d within ∙ c.loop-number.invariant.others n d (omega arith)) c.give_at.ensures))
          i h;
    }

pub returns : goal.returns
returns c = record {
  count = c.loop-number.invariant.same_length;
  each = λ i d l. c.loop-number.invariant.given i d (omega (arith, l, c.loop-number-test.false));
}
