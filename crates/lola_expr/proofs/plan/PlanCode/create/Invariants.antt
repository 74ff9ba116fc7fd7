use Rattle.std.proofs.Common.{take}
use Rattle.lola_expr.specs.Plans.{AreCodes}
use Rattle.lola_expr.proofs.plan.PlanCode.create.Given as goal

-- so many streams have their code
abbrev pub invariant-loop-stream : goal.invariant-loop-stream
invariant-loop-stream l = AreCodes (take l.stream-index l.spec.streams) l.evals.items
