use Rattle.std.proofs.Common.{◌≡◌, ◌++◌, [], ◌∷◌, ap, sym, ◌∙◌, subst, length, drop, slice_get, unwrap_or, arith}
use Rattle.std.proofs.Math.Seq.{drop-length}
use Rattle.lola_value.specs.declared.value.Kind.{Kind}
use Rattle.lola_value.specs.declared.value.Kind.TheVariants as kind
use Rattle.lola_model.specs.declared.expr.Expr.{Expr}
use Rattle.std.proofs.Common.{List}
use Rattle.lola_types.specs.Around.{setting}
use Rattle.lola_types.specs.Filled.{SameTree, filled_whole, FilledWith}
use Rattle.lola_types.proofs.FullLemmas.{with_filled, nothing_more}
use Rattle.lola_types.proofs.full.fill_with.Goals as goal

pub loop-number-preserved : goal.loop-number-preserved
loop-number-preserved c =
    let t : SameTree (filled_whole (setting c.args.around.now) (unwrap_or (slice_get c.args.wants.now c.loop-number.number) kind.Int64) c.index-exprs-number.result) c.in_ok-item.item =
    subst (λ (k : Kind). SameTree (filled_whole (setting c.args.around.now) k c.index-exprs-number.result) c.in_ok-item.item) c.kind_at.ensures c.in_ok-item.ensures in
    let p : c.push.new.self ≡ c.loop-number.full ++ c.in_ok-item.item ∷ [] = c.in_ok-push.ensures.ok in
    λ rest r. subst (λ (z : List Expr). FilledWith (setting c.args.around.now) c.args.wants.now c.args.exprs.now (z ++ rest)) (sym p)
    (with_filled (setting c.args.around.now) c.args.wants.now c.args.exprs.now c.loop-number.full c.loop-number.number c.index-exprs-number.result c.in_ok-item.item c.loop-number-test.true c.index-exprs-number.is t c.loop-number.invariant rest r)

pub returns : goal.returns
returns c =
    let h : c.loop-number.number ≡ length c.args.exprs.now = omega (arith, c.loop-number-test.false, c.loop-number.auto) in
    let e : drop c.loop-number.number c.args.exprs.now ≡ [] = ap (λ z. drop z c.args.exprs.now) h ∙ drop-length c.args.exprs.now in
    subst (λ (z : List Expr). FilledWith (setting c.args.around.now) c.args.wants.now c.args.exprs.now z) (nothing_more c.loop-number.full)
    (c.loop-number.invariant [] (subst (λ (z : List Expr). FilledWith (setting c.args.around.now) (drop c.loop-number.number c.args.wants.now) z []) (sym e) tt))
