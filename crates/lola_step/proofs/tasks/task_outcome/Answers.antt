-- A task has the outcome of its stream's clause where that is active, and else none.
use Rattle.std.proofs.Common.{Bool, subst, sym, true, false}
use Rattle.lola_value.specs.declared.value.Outcome.TheVariants as outcome
use Rattle.lola_value.specs.declared.value.Outcome.{Outcome}
use Rattle.lola_step.specs.Tasks.{IsOutcome, is_active_task}
use Rattle.lola_step.proofs.Done.{is_so, no_result}
use Rattle.lola_step.proofs.tasks.task_outcome.Goals as goal

pub active_outcome-requires-clause-ready : goal.active_outcome-requires-clause-ready
active_outcome-requires-clause-ready g c =
    c.requires.ready.active (sym (is_so c.args.plan.now c.args.moment.now (g.S.StreamStore.seen c.args.store.now) c.args.task c.as_slice.result.now c.eval_pacing_at-pacing.result.now
    c.is_active_for.result true c.as_slice.ensures c.eval_pacing_at-pacing.ensures c.is_active_for.ensures c.if-is_active_for.true))

pub returns-then-is_active_for : goal.returns-then-is_active_for
returns-then-is_active_for g c =
    subst (λ (b : Bool). IsOutcome c.args.plan.now b (g.S.StreamStore.remembers c.args.store.now) (g.S.StreamStore.seen c.args.store.now) c.args.task c.active_outcome.result)
    (is_so c.args.plan.now c.args.moment.now (g.S.StreamStore.seen c.args.store.now) c.args.task c.as_slice.result.now c.eval_pacing_at-pacing.result.now
    c.is_active_for.result true c.as_slice.ensures c.eval_pacing_at-pacing.ensures c.is_active_for.ensures c.if-is_active_for.true) c.active_outcome.ensures

pub returns-else-is_active_for : goal.returns-else-is_active_for
returns-else-is_active_for g c =
    let seen = g.S.StreamStore.seen c.args.store.now in
    let P : Outcome → Type 0 = λ o. IsOutcome c.args.plan.now (is_active_task c.args.plan.now c.args.moment.now seen c.args.task) (g.S.StreamStore.remembers c.args.store.now) seen c.args.task o in
    subst P (sym c.missing.ensures)
    (subst (λ (b : Bool). IsOutcome c.args.plan.now b (g.S.StreamStore.remembers c.args.store.now) (g.S.StreamStore.seen c.args.store.now) c.args.task outcome.Missing)
    (is_so c.args.plan.now c.args.moment.now (g.S.StreamStore.seen c.args.store.now) c.args.task c.as_slice.result.now c.eval_pacing_at-pacing.result.now
    c.is_active_for.result false c.as_slice.ensures c.eval_pacing_at-pacing.ensures c.is_active_for.ensures c.if-is_active_for.false)
    (no_result c.args.plan.now (g.S.StreamStore.remembers c.args.store.now) (g.S.StreamStore.seen c.args.store.now) c.args.task))
