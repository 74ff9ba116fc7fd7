-- The tasks of a layer, and what a store shows once all of them have their outcomes.
use Rattle.std.proofs.Common.{◌≡◌, refl, ap, ◌∙◌, sym, subst, ℕ, suc, ◌+◌, ◌*◌, ◌^◌, ◌<◌, ◌≤◌, ◌⊎◌, inl, inr, List, [], ◌∷◌, ◌++◌, Option, Some, None, Bool, true, false, not, nat_eq, if◌then◌else◌, length, slice_get, arith, length-append, add-zero, zero-add}
use Rattle.std.proofs.lemmas.Bool.{and_parts, cases_lt}
use Rattle.std.proofs.lemmas.Option.{slice_get_past, slice_get_within}
use Rattle.lola_value.specs.Times.{latest}
use Rattle.lola_value.specs.declared.value.Outcome.{Outcome}
use Rattle.lola_model.specs.Acceptance.{IsAccepted}
use Rattle.lola_model.specs.Graph.{eval_node, layer_of, spawn_node}
use Rattle.lola_model.specs.Model.{eval_pacing, is_input}
use Rattle.lola_model.specs.Named.{count_with, is_input_shape, is_of_bool, is_output_shape, is_trigger_shape, is_well_shaped}
use Rattle.lola_model.specs.Store.{Memories, Phase, Seen, has_spawned, instances_seen, is_running, is_silent, now_seen, start_seen, time_seen}
use Rattle.lola_model.specs.declared.plan.Plan.{Plan}
use Rattle.lola_model.specs.declared.spec.Clause.{Clause}
use Rattle.lola_model.specs.declared.spec.Sort.{Sort}
use Rattle.lola_model.specs.declared.spec.Sort.TheVariants as sort
use Rattle.lola_model.specs.declared.spec.Stream.{Stream}
use Rattle.lola_model.specs.declared.store.Whereabouts.{Whereabouts}
use Rattle.lola_step_contents.specs.Ready.{IsAtStep}
use Rattle.lola_step_contents.proofs.Clauses.{eval_may_ask}
use Rattle.lola_step_contents.specs.Stages.{Stage, eval_stage, is_evaluated, is_spawned, layer_stage}
use Rattle.lola_step_contents.proofs.Behind.{layer_behind}
use Rattle.lola_step_contents.proofs.Shapes.{passes_at}
use Rattle.lola_step.specs.Given.{AreResults, CanGiveAll, after_all}
use Rattle.lola_step.specs.Moments.{born_seen, may_be_active_in}
use Rattle.lola_step.specs.Notes.{AreOfStream, is_fine, layer_tasks, runs_in, sought_at, stream_tasks}
use Rattle.lola_step.specs.Progress.{GoesOn, IsAt, IsMomentOf, IsOf}
use Rattle.lola_step.specs.Tasks.{AreTasks, IsActiveTask, IsTask, is_active_task, pacing_of_task, params_given}
use Rattle.lola_step.specs.declared.spawn_result.SpawnResult.{SpawnResult}
use Rattle.lola_step.specs.declared.moment.Moment.{Moment}
use Rattle.lola_step.specs.declared.tasks.Task.{Task}
use Rattle.lola_step.proofs.Activities.{active_for_is}
use Rattle.lola_step.proofs.Asking.{evals_locally}
use Rattle.lola_step.proofs.Gathering.{asked_tasks, done_stays, few_tasks, run_is_done, run_is_to_come, runs_so}
use Rattle.lola_step.proofs.Layouts.{pacings_length}
use Rattle.lola_step.proofs.Places.{asked_of_stream}
use Rattle.lola_step.proofs.Single.{kinds_given}
use Rattle.lola_step.proofs.Keeping.{AreGivable, EachTask, IsFrom, Keeps, OrderedFrom, can_give_all, each_at, each_both, each_so, keeps_given, now_given}

-- a stream that is no input has an eval clause

has_one : (o : Option Clause) → nat_eq (count_with o) 1 ≡ true → (k : Clause) × (o ≡ Some k)
has_one None h = absurd (cc)
has_one (Some k) h = (k, refl)

has_eval : (x : Stream) → is_well_shaped x ≡ true → is_input x ≡ false → (k : Clause) × (x.eval ≡ Some k)
has_eval x h i = by x.sort refl
  where
    by : (t : Sort) → x.sort ≡ t → (k : Clause) × (x.eval ≡ Some k)
    by sort.Input e = absurd (let f : is_input x ≡ true = ap (λ t. elim t [ sort.Input ↦ true | sort.Output ↦ false | sort.Trigger ↦ false ]) e in cc)
    by sort.Output e =
        let f : is_output_shape x ≡ true = sym (ap (λ t. elim t [ sort.Input ↦ is_input_shape x | sort.Output ↦ is_output_shape x | sort.Trigger ↦ is_trigger_shape x ]) e) ∙ h in
        has_one x.eval (and_parts (nat_eq (count_with x.eval) 1) _ f).0
    by sort.Trigger e =
        let f : is_trigger_shape x ≡ true = sym (ap (λ t. elim t [ sort.Input ↦ is_input_shape x | sort.Output ↦ is_output_shape x | sort.Trigger ↦ is_trigger_shape x ]) e) ∙ h in
        has_one x.eval (and_parts (nat_eq (count_with x.eval) 1) _ (and_parts (is_of_bool x.kind) _ f).1).0

module _ (plan : Plan) (m : Moment) (spawn_results : List SpawnResult) (sought : List Whereabouts) (s : Seen) (layer : ℕ) where
  abbrev count : ℕ
  count = length plan.spec.streams

  abbrev now : Stage
  now = eval_stage count layer

  abbrev next : Stage
  next = layer_stage count (layer + 1)

  abbrev tasks : List Task
  tasks = layer_tasks plan m spawn_results sought s layer 0 plan.spec.streams

  -- a task of a stream that runs in the layer, and of an instance that lives
  pub record OfLayer (t : Task) : Type 0 where
    pub stream : Stream
    pub stream_is : slice_get plan.spec.streams t.stream ≡ Some stream
    pub runs : runs_in plan m spawn_results layer t.stream stream ≡ true
    pub lives : t.index < length (instances_seen s t.stream)

  each_of_stream : (n : ℕ) (x : Stream) → slice_get plan.spec.streams n ≡ Some x → runs_in plan m spawn_results layer n x ≡ true
      → (i : ℕ) (ts : List Task) → AreOfStream n i (length (instances_seen s n)) ts → EachTask OfLayer ts
  each_of_stream n x e r i [] h = tt
  each_of_stream n x e r i (t ∷ ts) h = (
    record {
      stream = x;
      stream_is = ap (λ k. slice_get plan.spec.streams k) h.0 ∙ e;
      runs = ap (λ k. runs_in plan m spawn_results layer k x) h.0 ∙ r;
      lives = subst (λ k. t.index < length (instances_seen s k)) (sym h.0) h.2;
    },
    each_of_stream n x e r (t.index + 1) ts h.3,
  )

  abbrev asked : ℕ → List Task
  asked n = asked_tasks plan m spawn_results sought s layer n

  of_stream : (n : ℕ) → AreOfStream n 0 (length (instances_seen s n)) (asked n)
  of_stream n = asked_of_stream (sought_at sought n) (eval_pacing (slice_get plan.pacings n)) m s n

  each_if_runs : (n : ℕ) (x : Stream) → slice_get plan.spec.streams n ≡ Some x → (b : Bool) → runs_in plan m spawn_results layer n x ≡ b → EachTask OfLayer (if b then asked n else [])
  each_if_runs n x e true r = each_of_stream n x e r 0 (asked n) (of_stream n)
  each_if_runs n x e false r = tt

  each_of_streams : (n : ℕ) (xs : List Stream) → ((i : ℕ) → slice_get plan.spec.streams (n + i) ≡ slice_get xs i) → EachTask OfLayer (layer_tasks plan m spawn_results sought s layer n xs)
  each_of_streams n [] h = tt
  each_of_streams n (x ∷ xs) h =
      each_both OfLayer (stream_tasks plan m spawn_results sought s layer n x) (layer_tasks plan m spawn_results sought s layer (n + 1) xs)
      (each_if_runs n x (ap (λ k. slice_get plan.spec.streams k) (sym (add-zero n)) ∙ h 0) (runs_in plan m spawn_results layer n x) refl)
      (each_of_streams (n + 1) xs (λ i. ap (λ k. slice_get plan.spec.streams k) (same_place n i) ∙ h (suc i)))
    where
      same_place : (a b : ℕ) → (a + 1) + b ≡ a + suc b
      same_place a b = omega arith

  pub each_of_layer : EachTask OfLayer tasks
  each_of_layer = each_of_streams 0 plan.spec.streams (λ i. ap (λ k. slice_get plan.spec.streams k) (zero-add i))

  -- they stand in order

  ordered_before : (n i : ℕ) (ts : List Task) → OrderedFrom (n + 1) 0 ts → OrderedFrom n i ts
  ordered_before n i [] h = tt
  ordered_before n i (t ∷ ts) h = (before h.0, h.1)
    where
      before : IsFrom (n + 1) 0 t.stream t.index → IsFrom n i t.stream t.index
      before (inl a) = inl (omega (arith, a))
      before (inr a) = inl (omega (arith, a.0))

  ordered_stream : (n i k : ℕ) (ts us : List Task) → AreOfStream n i k ts → OrderedFrom (n + 1) 0 us → OrderedFrom n i (ts ++ us)
  ordered_stream n i k [] us h o = ordered_before n i us o
  ordered_stream n i k (t ∷ ts) us h o = (
    inr (sym h.0, h.1),
    subst (λ j. OrderedFrom j (t.index + 1) (ts ++ us)) (sym h.0) (ordered_stream n (t.index + 1) k ts us h.3 o),
  )

  ordered_if : (n : ℕ) (b : Bool) (us : List Task) → OrderedFrom (n + 1) 0 us → OrderedFrom n 0 ((if b then asked n else []) ++ us)
  ordered_if n true us o = ordered_stream n 0 (length (instances_seen s n)) (asked n) us (of_stream n) o
  ordered_if n false us o = ordered_before n 0 us o

  pub ordered : (n : ℕ) (xs : List Stream) → OrderedFrom n 0 (layer_tasks plan m spawn_results sought s layer n xs)
  ordered n [] = tt
  ordered n (x ∷ xs) = ordered_if n (runs_in plan m spawn_results layer n x) (layer_tasks plan m spawn_results sought s layer (n + 1) xs) (ordered (n + 1) xs)

  -- there are few

  few_of_streams : ((n : ℕ) → length (instances_seen s n) ≤ 65536) → (n : ℕ) (xs : List Stream) → length (layer_tasks plan m spawn_results sought s layer n xs) ≤ 65536 * length xs
  few_of_streams few n [] = omega arith
  few_of_streams few n (x ∷ xs) =
      let a = few_tasks plan m spawn_results sought s layer n x in
      let b = few_of_streams few (n + 1) xs in
      omega (arith, a, few n, b, length-append (stream_tasks plan m spawn_results sought s layer n x) (layer_tasks plan m spawn_results sought s layer (n + 1) xs))

  module _ (accepted : IsAccepted plan) (at : IsAt plan now s) (moment : IsMomentOf m s) where
    pub numbered : length tasks < 2 ^ 32
    numbered = omega (arith, few_of_streams at.of.few 0 plan.spec.streams, accepted.named.few_streams)

    pub at_step : IsAtStep plan m.start moment.step s
    at_step = record {
      running = at.running;
      layout = at.of.layout;
      start_is = sym moment.start_is;
      time_is = sym moment.time_is ∙ moment.is.time_is;
      order = omega (arith, at.of.order, moment.start_is, moment.time_is, moment.is.time_is);
    }

    pub may_there : (n : ℕ) (x : Stream) → runs_in plan m spawn_results layer n x ≡ true → may_be_active_in m (eval_pacing (slice_get plan.pacings n)) ≡ true
    may_there n x e =
        (and_parts (may_be_active_in m (eval_pacing (slice_get plan.pacings n))) (is_fine (slice_get spawn_results n))
        (and_parts (nat_eq (layer_of plan.layers (eval_node n)) layer) _ (and_parts (not (is_input x)) _ e).1).1).0

    of_active : (t : Task) → OfLayer t → is_active_task plan m s t ≡ true → IsActiveTask plan s t
    of_active t h active =
        let clause = has_eval h.stream (passes_at is_well_shaped plan.spec.streams t.stream h.stream accepted.named.shapes h.stream_is) (runs_so plan m spawn_results sought s layer t.stream h.stream h.runs).no_input in
        let born = born_seen s t.stream t.index in
        record {
          stream = h.stream;
          stream_is = h.stream_is;
          clause = clause.0;
          clause_is = clause.1;
          lives = h.lives;
          asks = λ kinds. eval_may_ask plan m.start moment.step s t.stream h.stream clause.0 (params_given s t.stream t.index) accepted at_step h.stream_is clause.1
              born (sym (active_for_is m.start moment.step m moment.is born born (pacing_of_task plan t) (λ l. refl)) ∙ active)
              (kinds_given plan s at.of.layout t.stream h.stream h.stream_is accepted t.index kinds);
        }

    of_task : (t : Task) → OfLayer t → IsTask plan m s t
    of_task t h = record {
      lives = h.lives;
      paced = omega (arith, slice_get_within plan.spec.streams t.stream h.stream h.stream_is, pacings_length plan accepted);
      may = may_there t.stream h.stream h.runs;
      spawns = evals_locally plan accepted s at.of t.stream h.stream h.stream_is;
      active = of_active t h;
    }

    pub are_tasks : AreTasks plan m s tasks
    are_tasks i t e = of_task t (each_at OfLayer tasks i t e each_of_layer)

    -- each can be given its outcome

    givable : (remembers : Memories) (ts : List Task) (rs : List Outcome) → EachTask OfLayer ts → AreResults plan m remembers s ts rs → AreGivable s ts rs
    givable remembers [] [] h r = tt
    givable remembers [] (o ∷ rs) h r = absurd r
    givable remembers (t ∷ ts) [] h r = absurd r
    givable remembers (t ∷ ts) (o ∷ rs) h r = (
      record {
        running = at.running;
        lives = h.0.lives;
        silent = at.silent t.stream t.index h.0.stream h.0.stream_is (run_is_to_come plan m spawn_results sought s layer t.stream h.0.stream (runs_so plan m spawn_results sought s layer t.stream h.0.stream h.0.runs));
        kind = r.0.kind;
      },
      givable remembers ts rs h.1 r.1,
    )

    pub can_give_layer : (remembers : Memories) (rs : List Outcome) → AreResults plan m remembers s tasks rs → CanGiveAll s tasks rs
    can_give_layer remembers rs r = can_give_all tasks rs s (ordered 0 plan.spec.streams) (givable remembers tasks rs each_of_layer r)

    -- what the store shows then

    module _ (rs : List Outcome) where
      abbrev after : Seen
      after = after_all s tasks rs

      keeps : Keeps s after
      keeps = keeps_given tasks rs s

      pub goes_on : GoesOn s after
      goes_on = record { layout = keeps.layout; phase = keeps.phase; prepared = keeps.prepared; steps = keeps.steps; rooms = keeps.rooms_are; stay = λ n. omega (arith, keeps.counts n) }

      of_after : IsOf plan after
      of_after =
          let P : Phase → Type 0 = λ p. start_seen (record s { phase = p }) ≤ time_seen (record s { phase = p }) in
          let Q : Phase → Type 0 = λ p. time_seen (record s { phase = p }) ≤ latest in
          record {
            layout = keeps.layout ∙ at.of.layout;
            streams = keeps.streams ∙ at.of.streams;
            few = λ n. omega (arith, keeps.counts n, at.of.few n);
            single = λ n x e f. keeps.counts n ∙ at.of.single n x e f;
            order = subst P (sym keeps.phase) at.of.order;
            in_time = subst Q (sym keeps.phase) at.of.in_time;
          }

      other_stream : (n : ℕ) (x : Stream) → slice_get plan.spec.streams n ≡ Some x → is_evaluated plan.layers next n x ≡ false → (t : Task) → OfLayer t → n ≡ t.stream → ⊥
      other_stream n x e f t h q =
          let a : slice_get plan.spec.streams n ≡ Some h.stream = ap (λ k. slice_get plan.spec.streams k) q ∙ h.stream_is in
          let same : h.stream ≡ x = cc in
          let r = runs_so plan m spawn_results sought s layer t.stream h.stream h.runs in
          let done : is_evaluated plan.layers next t.stream h.stream ≡ true = run_is_done plan m spawn_results sought s layer t.stream h.stream r (slice_get_within plan.spec.streams t.stream h.stream h.stream_is) in
          let here : is_evaluated plan.layers next n x ≡ true = ap (λ k. is_evaluated plan.layers next k x) q ∙ (ap (λ y. is_evaluated plan.layers next t.stream y) (sym same) ∙ done) in
          absurd (cc)

      silent_after : (n i : ℕ) (x : Stream) → slice_get plan.spec.streams n ≡ Some x → is_evaluated plan.layers next n x ≡ false → is_silent (now_seen after n i) ≡ true
      silent_after n i x e f =
          ap is_silent (now_given n i tasks rs s (each_so OfLayer (λ t. n ≡ t.stream → ⊥) (λ t h. other_stream n x e f t h) tasks each_of_layer))
          ∙ at.silent n i x e (to_come_still (is_evaluated plan.layers now n x) refl)
        where
          to_come_still : (b : Bool) → is_evaluated plan.layers now n x ≡ b → is_evaluated plan.layers now n x ≡ false
          to_come_still false g = g
          to_come_still true g = absurd (let h = done_stays plan m spawn_results sought s layer n x (slice_get_within plan.spec.streams n x e) g in cc)

      unspawned_after : (n : ℕ) → (n < count) ⊎ (count ≤ n) → is_spawned plan.layers next n ≡ false → has_spawned (slice_get after.streams n) ≡ false
      unspawned_after n (inl h) e = keeps.spawned n ∙ at.unspawned n (layer_behind (layer_of plan.layers (spawn_node n)) n layer count h ∙ e)
      unspawned_after n (inr h) e = ap has_spawned (slice_get_past after.streams n (omega (arith, h, keeps.streams, at.of.streams)))

      pub at_after : IsAt plan next after
      at_after = record {
        of = of_after;
        running = sym (ap is_running (sym keeps.phase)) ∙ at.running;
        silent = silent_after;
        unspawned = λ n e. unspawned_after n (cases_lt n count) e;
      }
