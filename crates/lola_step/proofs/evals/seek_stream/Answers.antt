use Rattle.std.proofs.Common.{◌≡◌, ◌∙◌, ap, arith, length, slice_get, subst, sym, false, rules, Option, []}
use Rattle.std.proofs.lemmas.Option.{slice_get_within}
use Rattle.lola_model.specs.Model.{eval_pacing}
use Rattle.lola_model.specs.NextStep.{is_local}
use Rattle.lola_model.specs.declared.pacing.Pacing.{Pacing}
use Rattle.lola_step.proofs.Asking.{laid_out}
use Rattle.lola_step.proofs.Layouts.{pacings_length}
use Rattle.lola_step.proofs.Seeking.{eval_may_ask_when, silent_elsewhere}
use Rattle.lola_step.proofs.evals.seek_stream.Goals as goal

pub runs-requires-clause-pacings : goal.runs-requires-clause-pacings
runs-requires-clause-pacings g c =
    omega (arith, slice_get_within c.args.plan.now.spec.streams c.args.n c.args.stream.now c.requires.there, pacings_length c.args.plan.now c.requires.accepted)

pub runs-requires-clause-spawn_results : goal.runs-requires-clause-spawn_results
runs-requires-clause-spawn_results g c =
    omega (arith, slice_get_within c.args.plan.now.spec.streams c.args.n c.args.stream.now c.requires.there, c.requires.spawn_results)

pub eval_pacing_at-requires : goal.eval_pacing_at-requires
eval_pacing_at-requires g c =
    omega (arith, slice_get_within c.args.plan.now.spec.streams c.args.n c.args.stream.now c.requires.there, pacings_length c.args.plan.now c.requires.accepted, ap length c.as_slice.ensures)

pub seek-requires-clause-stream : goal.seek-requires-clause-stream
seek-requires-clause-stream g c =
    laid_out c.args.plan.now c.requires.accepted (g.S.StreamStore.seen c.args.store.now) c.requires.at.of c.args.n c.args.stream.now c.requires.there

pub seek-requires-clause-asks : goal.seek-requires-clause-asks
seek-requires-clause-asks g c =
    let alike : is_local c.eval_pacing_at.result.now ≡ false = search rules in
    let pacing = c.eval_pacing_at.ensures ∙ ap (λ ps. eval_pacing (slice_get ps c.args.n)) c.as_slice.ensures in
    eval_may_ask_when c.args.plan.now c.args.moment.now (g.S.StreamStore.remembers c.args.store.now) (g.S.StreamStore.seen c.args.store.now) c.args.n c.args.stream.now c.in-Some.clause
    c.requires.there c.in-Some.is c.requires.accepted c.args.spawn_results.now [] c.args.layer c.requires.at c.requires.moment (sym (c.runs.ensures c.args.layer c.args.stream.now c.requires.duty) ∙ c.if-not-runs.false)
    (subst (λ (o : Option Pacing). is_local o ≡ false) pacing alike)

pub returns-in_default-eval_pacing_at : goal.returns-in_default-eval_pacing_at
returns-in_default-eval_pacing_at g c = λ runs.
    silent_elsewhere c.args.plan.now c.args.moment.now (g.S.StreamStore.remembers c.args.store.now) (g.S.StreamStore.seen c.args.store.now) c.args.n c.args.stream.now c.in-Some.clause
    c.requires.there c.in-Some.is c.seek.result c.seek.ensures
