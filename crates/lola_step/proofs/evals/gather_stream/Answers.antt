use Rattle.std.proofs.Common.{◌≡◌, ◌∙◌, ◌++◌, ◌≤◌, List, [], Option, ap, append-nil, arith, false, if◌then◌else◌, length, length-append, slice_get, subst, sym, true, ℕ}
use Rattle.lola_model.specs.Model.{eval_pacing}
use Rattle.lola_model.specs.NextStep.{is_local}
use Rattle.lola_model.specs.Store.{Seen}
use Rattle.lola_model.specs.declared.pacing.Pacing.{Pacing}
use Rattle.lola_model.specs.declared.plan.Plan.{Plan}
use Rattle.lola_model.specs.declared.spec.Stream.{Stream}
use Rattle.lola_model.specs.declared.store.Whereabouts.{Whereabouts}
use Rattle.lola_step.specs.Notes.{places_asked, runs_in, sought_at, stream_tasks, tasks_at}
use Rattle.lola_step.specs.declared.spawn_result.SpawnResult.{SpawnResult}
use Rattle.lola_step.specs.declared.moment.Moment.{Moment}
use Rattle.lola_step.specs.declared.tasks.Task.{Task}
use Rattle.lola_step.proofs.Gathering.{asked_tasks, count_asked}
use Rattle.lola_step.proofs.evals.gather_stream.Goals as goal

pub add_asked-requires-clause-tasks_room : goal.add_asked-requires-clause-tasks_room
add_asked-requires-clause-tasks_room g c =
    let counted =
    count_asked c.args.plan.now c.args.moment.now c.args.spawn_results.now c.args.sought.now (g.S.StreamStore.seen c.args.store.now) c.args.layer c.args.n c.args.stream.now c.sought_of-whereabouts.result c.eval_pacing_at-pacing.result.now
    (sym (c.runs_now.ensures.runs c.args.layer c.args.stream.now c.requires.duty) ∙ c.if-runs_now.true) c.sought_of-whereabouts.ensures (c.eval_pacing_at-pacing.ensures ∙ ap (λ ps. eval_pacing (slice_get ps c.args.n)) c.as_slice.ensures) in
    omega (arith, c.requires.tasks_room, counted)

pub add_asked-requires-clause-single : goal.add_asked-requires-clause-single
add_asked-requires-clause-single g c none =
    let h = c.requires.single (sym c.has_clause.ensures ∙ none) in
    let P : Option Pacing → Type 0 = λ p. is_local p ≡ false in (
      subst P (sym (c.eval_pacing_at-pacing.ensures ∙ ap (λ ps. eval_pacing (slice_get ps c.args.n)) c.as_slice.ensures)) h.0,
      h.1,
    )

-- the tasks of a stream that runs are those of the places that are asked
tasks_asked : (plan : Plan) (m : Moment) (spawn_results : List SpawnResult) (sought : List Whereabouts) (s : Seen) (layer n : ℕ) (x : Stream) (w : Whereabouts) (p : Option Pacing) → runs_in plan m spawn_results layer n x ≡ true
    → w ≡ sought_at sought n → p ≡ eval_pacing (slice_get plan.pacings n) → tasks_at n (places_asked w p m s n) ≡ stream_tasks plan m spawn_results sought s layer n x
tasks_asked plan m spawn_results sought s layer n x w p r f e =
    ap (λ v. tasks_at n (places_asked v p m s n)) f
    ∙ (ap (λ q. tasks_at n (places_asked (sought_at sought n) q m s n)) e ∙ sym (ap (λ b. if b then asked_tasks plan m spawn_results sought s layer n else []) r))

pub returns-then-runs_now-clause-tasks : goal.returns-then-runs_now-clause-tasks
returns-then-runs_now-clause-tasks g c =
    c.add_asked.ensures.tasks
    ∙ ap (λ ts. c.args.tasks.now.items ++ ts)
    (tasks_asked c.args.plan.now c.args.moment.now c.args.spawn_results.now c.args.sought.now (g.S.StreamStore.seen c.args.store.now) c.args.layer c.args.n c.args.stream.now c.sought_of-whereabouts.result c.eval_pacing_at-pacing.result.now
    (sym (c.runs_now.ensures.runs c.args.layer c.args.stream.now c.requires.duty) ∙ c.if-runs_now.true) c.sought_of-whereabouts.ensures (c.eval_pacing_at-pacing.ensures ∙ ap (λ ps. eval_pacing (slice_get ps c.args.n)) c.as_slice.ensures))

-- a list with more is no shorter
no_less : (a b n m : ℕ) (old new more : List Task) → a ≡ n → n ≡ length old → b ≡ m → m ≡ length new → new ≡ old ++ more → a ≤ b
no_less a b n m old new more p q r s e = omega (arith, p, q, r, s, ap length e, length-append old more)

pub overflow_sub-spans : goal.overflow_sub-spans
overflow_sub-spans g c =
    no_less c.len-from.result c.len.result _ _ c.args.tasks.now.items c.add_asked.new.tasks.items _ c.len-from.ensures c.args.tasks.now.ok.0 c.len.ensures c.add_asked.new.tasks.ok.0 c.add_asked.ensures.tasks

pub bounds-spans-n : goal.bounds-spans-n
bounds-spans-n g c = c.requires.spans

pub returns-else-runs_now-clause-tasks : goal.returns-else-runs_now-clause-tasks
returns-else-runs_now-clause-tasks g c =
    let old = c.args.tasks.now.items in
    let asked = asked_tasks c.args.plan.now c.args.moment.now c.args.spawn_results.now c.args.sought.now (g.S.StreamStore.seen c.args.store.now) c.args.layer c.args.n in
    sym (append-nil old)
    ∙ ap (λ b. old ++ (if b then asked else [])) (sym (sym (c.runs_now.ensures.runs c.args.layer c.args.stream.now c.requires.duty) ∙ c.if-runs_now.false))
