use Rattle.std.proofs.Common.{drop}
use Rattle.lola_model.specs.Parts.{listed_streams}
use Rattle.lola_model.specs.Visits.{parts_of, TakesAll}
use Rattle.lola_model.proofs.walk.visit_streams.Given as goal

-- whatever is made of what is left is made of all
abbrev pub invariant-loop-stream : goal.invariant-loop-stream
invariant-loop-stream g l =
    (new : _) → TakesAll (g.V.PartVisitor.takes l.visitor) (listed_streams parts_of (drop l.stream-index l.streams)) l.target new
    → TakesAll (g.V.PartVisitor.takes l.visitor) (listed_streams parts_of l.streams) l.initial.target new
