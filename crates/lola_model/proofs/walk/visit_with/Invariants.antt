use Rattle.std.proofs.Common.{drop}
use Rattle.lola_model.specs.Parts.{listed_with}
use Rattle.lola_model.specs.Visits.{parts_of, TakesAll}
use Rattle.lola_model.proofs.walk.visit_with.Given as goal

-- whatever is made of what is left is made of all
abbrev pub invariant-loop-expr : goal.invariant-loop-expr
invariant-loop-expr g l =
    (new : _) → TakesAll (g.V.PartVisitor.takes l.visitor) (listed_with parts_of (drop l.expr-index l.exprs)) l.target new
    → TakesAll (g.V.PartVisitor.takes l.visitor) (listed_with parts_of l.exprs) l.initial.target new
