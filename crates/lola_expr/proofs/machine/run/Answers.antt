-- The short outcome is that of the evaluation.
use Rattle.std.proofs.Common.{subst, sym}
use Rattle.lola_value.specs.declared.value.Outcome.{Outcome}
use Rattle.lola_expr.specs.Evaluation.{IsDenoted}
use Rattle.lola_expr.proofs.machine.run.Goals as goal

pub returns-in-None-clause-value : goal.returns-in-None-clause-value
returns-in-None-clause-value g c =
    let remembers = g.S.StreamStore.remembers c.args.store.now in
    let seen = g.S.StreamStore.seen c.args.store.now in
    subst (λ (o : Outcome). IsDenoted remembers seen c.args.params.now c.args.expr.now o) (sym c.of.ensures) c.eval.ensures.value
