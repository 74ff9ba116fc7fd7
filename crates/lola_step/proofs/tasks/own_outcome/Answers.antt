-- The parameters that the store shows are those of the instance.
use Rattle.std.proofs.Common.{IsTrue, slice_get, subst, sym}
use Rattle.lola_value.specs.declared.value.Params.{Params}
use Rattle.lola_value.specs.Kinds.{are_of_kinds}
use Rattle.lola_value.specs.Naming.{the_values}
use Rattle.lola_model.specs.Model.{clause_answer}
use Rattle.lola_model.specs.Store.{instances_seen, parameters_of}
use Rattle.std.proofs.Common.{[], ◌∷◌, unwrap_or}
use Rattle.lola_value.specs.declared.value.Kind.TheVariants as kind
use Rattle.lola_step_contents.specs.Ready.{IsClauseAskable}
use Rattle.lola_step.specs.Clauses.{IsAnswer}
use Rattle.lola_step.proofs.Done.{params_are}
use Rattle.lola_step.proofs.tasks.own_outcome.Goals as goal

pub instance_outcome-requires-clause-asks : goal.instance_outcome-requires-clause-asks
instance_outcome-requires-clause-asks g c =
    let s = g.S.StreamStore.seen c.args.store.now in
    let is = params_are (slice_get (instances_seen s c.args.task.stream) c.args.task.index) c.params_of-params.result c.params_of-params.ensures.value in
    let K : Params → Type 0 = λ p. IsTrue (are_of_kinds (parameters_of (slice_get s.layout.streams c.args.task.stream)) (the_values p)) in
    let P : Params → Type 0 = λ p. IsClauseAskable s p c.args.plan.now.spec.texts (unwrap_or c.args.stream.now.kind kind.Int64 ∷ []) c.args.clause.now in
    subst P (sym is) (c.requires.asks (subst K is c.params_of-params.ensures.kinds))

pub returns-clause-answer : goal.returns-clause-answer
returns-clause-answer g c =
    let s = g.S.StreamStore.seen c.args.store.now in
    let is = params_are (slice_get (instances_seen s c.args.task.stream) c.args.task.index) c.params_of-params.result c.params_of-params.ensures.value in
    let P : Params → Type 0 = λ p. IsAnswer c.args.plan.now (g.S.StreamStore.remembers c.args.store.now) s p (λ d q. clause_answer c.args.plan.now.spec d q c.args.clause.now) c.instance_outcome.result in
    subst P is c.instance_outcome.ensures.answer
