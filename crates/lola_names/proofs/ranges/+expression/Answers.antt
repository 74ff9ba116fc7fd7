use Rattle.std.proofs.Common.{◌++◌, sym, ap, ap₂, ◌∙◌, append_assoc}
use Rattle.std.specs.List.{flat_map}
use Rattle.lola_names.specs.Specification as range
use Rattle.lola_names.proofs.RangeLemmas.{ranges-Reference, ranges-Prefix, ranges-Defaults, ranges-Binary, ranges-If, ok_more, ok_same, more_then, places_turn, places_end}
use Rattle.lola_names.proofs.ranges.+expression.Goals as goal

pub argument_ranges-loop-x-preserved : goal.argument_ranges-loop-x-preserved
argument_ranges-loop-x-preserved t c =
    places_turn range.expr_ranges c.args.xs.now c.loop-x.x-index c.x-item.result _ _ _ c.loop-x-test.true c.x-item.is c.in_ok-expr_ranges.ensures c.loop-x.invariant

pub argument_ranges-returns : goal.argument_ranges-returns
argument_ranges-returns t c = places_end range.expr_ranges c.args.xs.now c.loop-x.x-index _ _ c.loop-x-test.false c.loop-x.invariant

pub expr_ranges-returns-in_ok-access_ranges-in-Reference : goal.expr_ranges-returns-in_ok-access_ranges-in-Reference
expr_ranges-returns-in_ok-access_ranges-in-Reference t c =
    let b = c.in-Reference in
    ok_more c.argument_ranges.result c.args.to.now _ _ (range.access_ranges b.how) (flat_map range.expr_ranges c.as_slice.result.now) (range.expr_ranges c.args.x.now)
    c.in_ok-access_ranges-in-Reference.ensures c.argument_ranges.ensures
    (ap (λ l. range.access_ranges b.how ++ flat_map range.expr_ranges l) c.as_slice.ensures
    ∙ sym (ranges-Reference b.field-0 b.field-1 b.arguments b.how) ∙ ap range.expr_ranges (sym b.is))

pub expr_ranges-returns-in_ok-expr_ranges-in-Defaults : goal.expr_ranges-returns-in_ok-expr_ranges-in-Defaults
expr_ranges-returns-in_ok-expr_ranges-in-Defaults t c =
    let b = c.in-Defaults in
    ok_more c.expr_ranges-in-Defaults.result c.args.to.now _ _ (range.expr_ranges c.get.result.now) (range.expr_ranges c.get-in-Defaults.result.now) (range.expr_ranges c.args.x.now)
    c.in_ok-expr_ranges-in-Defaults.ensures c.expr_ranges-in-Defaults.ensures
    (ap₂ (λ m n. range.expr_ranges m ++ range.expr_ranges n) c.get.ensures c.get-in-Defaults.ensures ∙ sym (ranges-Defaults b.field-0 b.x b.y) ∙ ap range.expr_ranges (sym b.is))

pub expr_ranges-returns-in-Prefix : goal.expr_ranges-returns-in-Prefix
expr_ranges-returns-in-Prefix t c =
    let b = c.in-Prefix in
    ok_same c.expr_ranges-in-Prefix.result c.args.to.now _ (range.expr_ranges c.get-in-Prefix.result.now) (range.expr_ranges c.args.x.now) c.expr_ranges-in-Prefix.ensures
    (ap range.expr_ranges c.get-in-Prefix.ensures ∙ sym (ranges-Prefix b.field-0 b.field-1 b.x) ∙ ap range.expr_ranges (sym b.is))

pub expr_ranges-returns-in_ok-expr_ranges-in-Binary : goal.expr_ranges-returns-in_ok-expr_ranges-in-Binary
expr_ranges-returns-in_ok-expr_ranges-in-Binary t c =
    let b = c.in-Binary in
    ok_more c.expr_ranges-in-Binary-2.result c.args.to.now _ _ (range.expr_ranges c.get-in-Binary.result.now) (range.expr_ranges c.get-in-Binary-2.result.now) (range.expr_ranges c.args.x.now)
    c.in_ok-expr_ranges-in-Binary.ensures c.expr_ranges-in-Binary-2.ensures
    (ap₂ (λ m n. range.expr_ranges m ++ range.expr_ranges n) c.get-in-Binary.ensures c.get-in-Binary-2.ensures ∙ sym (ranges-Binary b.field-0 b.field-1 b.x b.y) ∙ ap range.expr_ranges (sym b.is))

pub expr_ranges-returns-in_ok-expr_ranges-in-If-2 : goal.expr_ranges-returns-in_ok-expr_ranges-in-If-2
expr_ranges-returns-in_ok-expr_ranges-in-If-2 t c =
    let b = c.in-If in
    let x = range.expr_ranges c.get-in-If.result.now in
    let y = range.expr_ranges c.get-in-If-2.result.now in
    let z = range.expr_ranges c.get-in-If-3.result.now in
    ok_more c.expr_ranges-in-If-3.result c.args.to.now c.expr_ranges-in-If-2.new.to _ (x ++ y) z (range.expr_ranges c.args.x.now)
    (more_then c.args.to.now _ _ x y c.in_ok-expr_ranges-in-If.ensures c.in_ok-expr_ranges-in-If-2.ensures) c.expr_ranges-in-If-3.ensures
    (append_assoc x y z ∙ ap₂ (λ m l. range.expr_ranges m ++ l) c.get-in-If.ensures (ap₂ (λ m n. range.expr_ranges m ++ range.expr_ranges n) c.get-in-If-2.ensures c.get-in-If-3.ensures)
    ∙ sym (ranges-If b.field-0 b.x b.y b.z) ∙ ap range.expr_ranges (sym b.is))
