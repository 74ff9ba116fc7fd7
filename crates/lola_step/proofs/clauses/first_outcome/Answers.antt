-- The first expression is the answer.
use Rattle.std.proofs.Common.{◌∷◌, [], sym, unwrap_or}
use Rattle.lola_value.specs.declared.value.Kind.TheVariants as kind
use Rattle.lola_step.proofs.Asked.{first_answered}
use Rattle.lola_step.proofs.clauses.first_outcome.Goals as goal

pub returns-in-Some-clause-answer : goal.returns-in-Some-clause-answer
returns-in-Some-clause-answer g c =
    first_answered c.args.plan.now (g.S.StreamStore.remembers c.args.store.now) (g.S.StreamStore.seen c.args.store.now) c.args.params.now (unwrap_or c.args.stream.now.kind kind.Int64 ∷ []) c.args.exprs.now
    c.in-Some.expr.now c.coded_outcome.result (sym c.in-Some.ensures.value) c.requires.asks c.coded_outcome.ensures.value
