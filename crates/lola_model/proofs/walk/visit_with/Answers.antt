use Rattle.std.proofs.Common.{subst, sym, ◌+◌, List, drop}
use Rattle.lola_model.specs.Parts.{listed, listed_with}
use Rattle.lola_model.specs.Visits.{parts_of, TakesAll}
use Rattle.lola_model.specs.declared.part.ReadPart.{ReadPart}
use Rattle.lola_model.proofs.Taken.{takes_both, with_left}
use Rattle.lola_model.proofs.walk.visit_with.Goals as goal

pub loop-expr-preserved : goal.loop-expr-preserved
loop-expr-preserved g c = λ new h.
    let one = listed parts_of c.expr-item.result in
    let others = listed_with parts_of (drop (c.loop-expr.expr-index + 1) c.args.exprs.now) in
    let left = with_left c.args.exprs.now c.loop-expr.expr-index c.expr-item.result c.loop-expr-test.true c.expr-item.is in
    let takes = g.V.PartVisitor.takes c.args.visitor.now in
    c.loop-expr.invariant new (subst (λ (ps : List ReadPart). TakesAll takes ps c.loop-expr.target new) (sym left) (takes_both takes one others c.loop-expr.target c.visit_expr.new.target new c.in_ok-visit_expr.ensures h))
