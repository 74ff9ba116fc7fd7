-- Where its clause is active, a task has the outcome of the clause.
use Rattle.std.proofs.Common.{◌≡◌, ◌<◌, ap, subst, refl, slice_get, length, get_or, List, Option, sym, ◌∙◌}
use Rattle.std.proofs.lemmas.Option.{slice_get_read, slice_get_within}
use Rattle.lola_expr.specs.Plans.{IsCodeIn, IsEvalCode}
use Rattle.lola_model.specs.declared.spec.Clause.{Clause}
use Rattle.lola_model.specs.declared.spec.Spec.{Spec}
use Rattle.lola_model.specs.declared.spec.Stream.{Stream}
use Rattle.lola_step.specs.Tasks.{params_given, params_seen}
use Rattle.lola_step.proofs.Done.{is_result, may_ask, never_without}
use Rattle.lola_step.proofs.Single.{none_given, own_given, spawns_here}
use Rattle.lola_step.proofs.tasks.active_outcome.Goals as goal

pub own_outcome-requires-clause-asks : goal.own_outcome-requires-clause-asks
own_outcome-requires-clause-asks g c kinds =
    let plan = c.args.plan.now in
    let s = g.S.StreamStore.seen c.args.store.now in
    let t = c.args.task in
    let streams = plan.spec.streams in
    let x = c.index-as_slice-task.result in
    let read = slice_get_read streams (length streams) t.stream x refl (slice_get_within streams t.stream c.requires.ready.stream c.requires.ready.stream_is)
    (subst (λ (xs : List Stream). x ≡ get_or xs t.stream x) c.as_slice.ensures c.index-as_slice-task.is) in
    let own : params_given s t.stream t.index ≡ params_seen s t.stream t.index = own_given plan s c.requires.layout t.stream x read t.index (sym c.has_clause.ensures ∙ c.if-has_clause.true) in
    may_ask plan s t c.requires.ready x c.in-Some.clause (params_seen s t.stream t.index) c.requires.layout read c.in-Some.is (sym own) (λ spawns. kinds)

pub bounds-as_slice-task : goal.bounds-as_slice-task
bounds-as_slice-task g c =
    subst (λ (xs : List Stream). c.args.task.stream < length xs) (sym c.as_slice.ensures) (slice_get_within c.args.plan.now.spec.streams c.args.task.stream c.requires.ready.stream c.requires.ready.stream_is)

pub own_outcome-requires-clause-code : goal.own_outcome-requires-clause-code
own_outcome-requires-clause-code g c =
    let t = c.args.task in
    let streams = c.args.plan.now.spec.streams in
    let x = c.index-as_slice-task.result in
    let read = slice_get_read streams (length streams) t.stream x refl (slice_get_within streams t.stream c.requires.ready.stream c.requires.ready.stream_is)
    (subst (λ (xs : List Stream). x ≡ get_or xs t.stream x) c.as_slice.ensures c.index-as_slice-task.is) in
    subst (λ (o : Option Clause). IsEvalCode o c.eval_of-code.result.now) c.in-Some.is
    (subst (λ (o : Option Stream). IsCodeIn o c.eval_of-code.result.now) (ap (λ (y : Spec). slice_get y.streams t.stream) c.requires.code ∙ read) c.eval_of-code.ensures)

pub eval_of-code-requires : goal.eval_of-code-requires
eval_of-code-requires g c =
    subst (λ (y : Spec). c.args.task.stream < length y.streams) (sym c.requires.code) (slice_get_within c.args.plan.now.spec.streams c.args.task.stream c.requires.ready.stream c.requires.ready.stream_is)

pub instance_outcome-requires-clause-code : goal.instance_outcome-requires-clause-code
instance_outcome-requires-clause-code g c =
    let t = c.args.task in
    let streams = c.args.plan.now.spec.streams in
    let x = c.index-as_slice-task.result in
    let read = slice_get_read streams (length streams) t.stream x refl (slice_get_within streams t.stream c.requires.ready.stream c.requires.ready.stream_is)
    (subst (λ (xs : List Stream). x ≡ get_or xs t.stream x) c.as_slice.ensures c.index-as_slice-task.is) in
    subst (λ (o : Option Clause). IsEvalCode o c.eval_of-code.result.now) c.in-Some.is
    (subst (λ (o : Option Stream). IsCodeIn o c.eval_of-code.result.now) (ap (λ (y : Spec). slice_get y.streams t.stream) c.requires.code ∙ read) c.eval_of-code.ensures)

pub instance_outcome-requires-clause-asks : goal.instance_outcome-requires-clause-asks
instance_outcome-requires-clause-asks g c =
    let plan = c.args.plan.now in
    let s = g.S.StreamStore.seen c.args.store.now in
    let t = c.args.task in
    let streams = plan.spec.streams in
    let x = c.index-as_slice-task.result in
    let read = slice_get_read streams (length streams) t.stream x refl (slice_get_within streams t.stream c.requires.ready.stream c.requires.ready.stream_is)
    (subst (λ (xs : List Stream). x ≡ get_or xs t.stream x) c.as_slice.ensures c.index-as_slice-task.is) in
    let without = sym c.has_clause.ensures ∙ c.if-has_clause.false in
    may_ask plan s t c.requires.ready x c.in-Some.clause c.args.none.now c.requires.layout read c.in-Some.is
    (c.requires.none ∙ sym (none_given plan s c.requires.layout t.stream x read t.index without))
    (λ spawns. absurd (let e = sym spawns ∙ (spawns_here plan s c.requires.layout t.stream x read ∙ without) in cc))

pub returns-then-has_clause : goal.returns-then-has_clause
returns-then-has_clause g c =
    let plan = c.args.plan.now in
    let s = g.S.StreamStore.seen c.args.store.now in
    let t = c.args.task in
    let streams = plan.spec.streams in
    let x = c.index-as_slice-task.result in
    let read = slice_get_read streams (length streams) t.stream x refl (slice_get_within streams t.stream c.requires.ready.stream c.requires.ready.stream_is)
    (subst (λ (xs : List Stream). x ≡ get_or xs t.stream x) c.as_slice.ensures c.index-as_slice-task.is) in
    let own : params_given s t.stream t.index ≡ params_seen s t.stream t.index = own_given plan s c.requires.layout t.stream x read t.index (sym c.has_clause.ensures ∙ c.if-has_clause.true) in
    is_result plan (g.S.StreamStore.remembers c.args.store.now) s t x c.in-Some.clause (params_seen s t.stream t.index) c.own_outcome.result
    c.requires.layout read c.in-Some.is (sym own) c.own_outcome.ensures.kind c.own_outcome.ensures.answer

pub returns-else-has_clause : goal.returns-else-has_clause
returns-else-has_clause g c =
    let plan = c.args.plan.now in
    let s = g.S.StreamStore.seen c.args.store.now in
    let t = c.args.task in
    let streams = plan.spec.streams in
    let x = c.index-as_slice-task.result in
    let read = slice_get_read streams (length streams) t.stream x refl (slice_get_within streams t.stream c.requires.ready.stream c.requires.ready.stream_is)
    (subst (λ (xs : List Stream). x ≡ get_or xs t.stream x) c.as_slice.ensures c.index-as_slice-task.is) in
    is_result plan (g.S.StreamStore.remembers c.args.store.now) s t x c.in-Some.clause c.args.none.now c.instance_outcome.result
    c.requires.layout read c.in-Some.is (c.requires.none ∙ sym (none_given plan s c.requires.layout t.stream x read t.index (sym c.has_clause.ensures ∙ c.if-has_clause.false)))
    c.instance_outcome.ensures.kind c.instance_outcome.ensures.answer

pub returns-in-None : goal.returns-in-None
returns-in-None g c =
    let streams = c.args.plan.now.spec.streams in
    let read = slice_get_read streams (length streams) c.args.task.stream c.index-as_slice-task.result refl (slice_get_within streams c.args.task.stream c.requires.ready.stream c.requires.ready.stream_is)
    (subst (λ (xs : List Stream). c.index-as_slice-task.result ≡ get_or xs c.args.task.stream c.index-as_slice-task.result) c.as_slice.ensures c.index-as_slice-task.is) in
    absurd (never_without (slice_get streams c.args.task.stream) c.index-as_slice-task.result c.requires.ready.stream c.requires.ready.clause read c.in-None.is c.requires.ready.stream_is c.requires.ready.clause_is)
