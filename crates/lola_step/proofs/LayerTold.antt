-- What a layer's outcomes are in each run: those of the model.
use Rattle.std.proofs.Common.{◌≡◌, refl, ap, ◌∙◌, sym, subst, ℕ, zero, suc, ◌+◌, ◌<◌, ◌≤◌, ◌⊎◌, inl, inr, List, [], ◌∷◌, ◌++◌, Option, Some, None, Bool, true, false, not, ◌&&◌, nat_eq, nat_lt, if◌then◌else◌, length, map, slice_get, take, drop, arith, length-append, get_or, add-zero, zero-add}
use Rattle.std.proofs.lemmas.Bool.{cases_eq, eqb-true, not-true, eq-eqb, and_parts}
use Rattle.std.proofs.lemmas.Option.{slice_get-get_or, slice_get_within}
use Rattle.lola_value.specs.Answer.{Answer, Missing}
use Rattle.lola_value.specs.Naming.{Naming, AreHeld, IsHeldIn, read_outcome, read_params, the_values}
use Rattle.lola_value.specs.declared.text.Field.{Field}
use Rattle.lola_value.specs.declared.value.Outcome.{Outcome}
use Rattle.lola_model.specs.Acceptance.{IsAccepted}
use Rattle.lola_model.specs.Activity.{is_active_for, may_be_active}
use Rattle.lola_model.specs.Content.{Content, Life, StreamContent, is_bad, seen, time_of}
use Rattle.lola_model.specs.Graph.{eval_node, layer_of}
use Rattle.lola_model.specs.Model.{eval_outcome, eval_pacing, is_input, spawned_in}
use Rattle.lola_model.specs.Named.{has_clause}
use Rattle.lola_model.specs.NextStep.{is_local}
use Rattle.lola_model.specs.Store.{Memories, Seen, SeenInstance, SeenStream, StandForLives, StandForStreams, StreamLayout, instances_of, instances_seen, spawns_in}
use Rattle.lola_model.specs.Table.{Idle, Instance, Living, Named, SpawnFaulted, SpawnPoisoned, Spawned, Step, StreamRow, TableRow}
use Rattle.lola_model.specs.Whereabouts.{may_stand_at}
use Rattle.lola_model.specs.declared.pacing.Pacing.{Pacing}
use Rattle.lola_model.specs.declared.plan.Plan.{Plan}
use Rattle.lola_model.specs.declared.spec.Clause.{Clause}
use Rattle.lola_model.specs.declared.spec.Spec.{Spec}
use Rattle.lola_model.specs.declared.spec.Stream.{Stream}
use Rattle.lola_model.specs.declared.store.Whereabouts.{Whereabouts}
use Rattle.lola_step_contents.specs.Changed.{lives_in, told}
use Rattle.lola_expr.specs.Evaluation.{Sees}
use Rattle.lola_step_contents.specs.Nexts.{EvalIs, EvalsGo, Told, is_run_in, living_in, told_each, told_from, told_in_layer}
use Rattle.lola_step_contents.specs.Stages.{Stage, content_so_far, eval_stage, full_row, is_behind, is_evaluated, layer_stage}
use Rattle.lola_step_contents.proofs.Behind.{same_behind}
use Rattle.lola_step_contents.proofs.Evals.{evals_go}
use Rattle.lola_step.specs.Clauses.{IsAnswer, eval_answer}
use Rattle.lola_step.specs.Evals.{IsReadyFor}
use Rattle.lola_step.specs.Given.{AreHeldIn, AreResults, told_outcomes}
use Rattle.lola_step.specs.Moments.{active_for_in, birth_at, born_seen}
use Rattle.lola_step.specs.Notes.{AreSpawnResults, AreOfStream, AreSilent, ReadEach, ShowLiving, ShowResults, asked_in, done_of, in_span, is_fine, layer_tasks, spawn_result_of, runs_in, sought_at, stream_tasks, tasks_at}
use Rattle.lola_step.specs.Progress.{IsAt, IsRunAt}
use Rattle.lola_step.specs.Sought.{AreSought, IsSilentElsewhere}
use Rattle.lola_step.specs.Tasks.{IsResult, params_given}
use Rattle.lola_step.specs.declared.spawn_result.SpawnResult.{SpawnResult}
use Rattle.lola_step.specs.declared.moment.Moment.{Moment}
use Rattle.lola_step.specs.declared.scratch.Span.{Span}
use Rattle.lola_step.specs.declared.tasks.Task.{Task}
use Rattle.lola_step.proofs.Activities.{active_for_is, may_be_is, never_active}
use Rattle.lola_step.proofs.Asking.{evals_locally}
use Rattle.lola_step.proofs.Gathering.{asked_tasks, run_is_to_come}
use Rattle.lola_step.proofs.LayerNotes.{as_many_spans, same_asked_in, same_in_span, span_of, spans_after}
use Rattle.lola_step.proofs.Places.{asked_of_stream, asked_where, asks_of, of_stream_where, paced_for, places_where, task_at, unasked_so, unpaced_is_inactive}
use Rattle.lola_step.proofs.Quiet.{IsQuiet, held_of_stream, quiet_lives, quiet_same, read_asked, read_past, told_else, told_stream}
use Rattle.lola_step.proofs.Results.{SpanOf, count_results, split_results}
use Rattle.lola_step.proofs.Single.{AreBare, bare_living, given_reads}
use Rattle.lola_step.proofs.Undue.{evals_listed}

-- what stands for lives

module _ (names : Naming) (remembers : Memories) where
  module _ (layouts : List StreamLayout) where
    lives_stand : (k j n : ℕ) → n ≡ k + j → (ss : List SeenStream) (cs : List StreamContent) → StandForStreams layouts names remembers k ss cs
        → StandForLives names remembers n 0 (instances_of (slice_get ss j)) (lives_in (slice_get cs j))
    lives_stand k j n e [] [] h = tt
    lives_stand k j n e [] (c ∷ cs) h = absurd h
    lives_stand k j n e (x ∷ ss) [] h = absurd h
    lives_stand k zero n e (x ∷ ss) (c ∷ cs) h = let q : k ≡ n = omega (arith, e) in subst (λ l. StandForLives names remembers l 0 x.instances c.lives) q h.0.lives
    lives_stand k (suc j) n e (x ∷ ss) (c ∷ cs) h = lives_stand (k + 1) j n (omega (arith, e)) ss cs h.1

    -- and were born when they were, in a stream with a spawn clause
    births_stand : (k j n : ℕ) → n ≡ k + j → (ss : List SeenStream) (cs : List StreamContent) → StandForStreams layouts names remembers k ss cs → spawns_in (slice_get layouts n) ≡ true
        → map (λ (y : SeenInstance). y.born) (instances_of (slice_get ss j)) ≡ map (λ (v : Life). v.born) (lives_in (slice_get cs j))
    births_stand k j n e [] [] h spawns = refl
    births_stand k j n e [] (c ∷ cs) h spawns = absurd h
    births_stand k j n e (x ∷ ss) [] h spawns = absurd h
    births_stand k zero n e (x ∷ ss) (c ∷ cs) h spawns = let q : n ≡ k = omega (arith, e) in h.0.births (subst (λ l. spawns_in (slice_get layouts l) ≡ true) q spawns)
    births_stand k (suc j) n e (x ∷ ss) (c ∷ cs) h spawns = births_stand (k + 1) j n (omega (arith, e)) ss cs h.1 spawns

-- outcomes as a function of instances

abbrev AreOutcomes : (Instance → Answer) → List Living → Type 0
AreOutcomes f [] = Unit {0}
AreOutcomes f (l ∷ ls) = (l.outcome ≡ f l.instance) × AreOutcomes f ls

all_outcomes : (f : Instance → Answer) (xs : List Instance) → AreOutcomes f (map (λ x. record { instance = x; outcome = f x }) xs)
all_outcomes f [] = tt
all_outcomes f (x ∷ xs) = (refl, all_outcomes f xs)

other_outcomes : (f g : Instance → Answer) → ((x : Instance) → f x ≡ g x) → (ls : List Living) → AreOutcomes f ls → AreOutcomes g ls
other_outcomes f g e [] h = tt
other_outcomes f g e (l ∷ ls) h = (h.0 ∙ e l.instance, other_outcomes f g e ls h.1)

none_given : (ls : List Living) → AreOutcomes (λ x. Missing) ls → AreSilent ls
none_given [] h = tt
none_given (l ∷ ls) h = (h.0, none_given ls h.1)

missing_where : (spec : Spec) (c : Content) (b a : Bool) (k : Option Clause) (p : List Field) → (a && not b) ≡ false → eval_outcome spec c b a k p ≡ Missing
missing_where spec c b a None p e = refl
missing_where spec c true a (Some k) p e = refl
missing_where spec c false false (Some k) p e = refl
missing_where spec c false true (Some k) p e = absurd (cc)

-- what is fine is not bad
fine_is : (d : Spawned) → is_fine (Some (spawn_result_of d)) ≡ not (is_bad d)
fine_is Idle = refl
fine_is (Named p) = refl
fine_is (SpawnFaulted k) = refl
fine_is SpawnPoisoned = refl

and_same : (a p q : Bool) → (a ≡ true → p ≡ q) → (a && p) ≡ (a && q)
and_same true p q h = h refl
and_same false p q h = refl

-- where the first is false the second is
both_false : (a b q : Bool) → (a ≡ false → b ≡ false) → (a && q) ≡ false → (b && q) ≡ false
both_false true b true h e = absurd (cc)
both_false true true false h e = refl
both_false true false false h e = refl
both_false false b q h e = ap (λ t. t && q) (h refl)

-- telling in parts

told_in_parts : (c : Content) (xs ys : List Told) → told_each c (xs ++ ys) ≡ told_each (told_each c xs) ys
told_in_parts c [] ys = refl
told_in_parts c (t ∷ xs) ys = told_in_parts (told c t.stream t.index (seen t.answer)) xs ys

module _ (names : Naming) where
  outcomes_in_parts : (c : Content) (ts us : List Task) (rs : List Outcome) → length ts ≤ length rs
      → told_outcomes names c (ts ++ us) rs ≡ told_outcomes names (told_outcomes names c ts (take (length ts) rs)) us (drop (length ts) rs)
  outcomes_in_parts c [] us rs h = refl
  outcomes_in_parts c (t ∷ ts) us [] h = absurd (omega (arith, h))
  outcomes_in_parts c (t ∷ ts) us (r ∷ rs) h = outcomes_in_parts (told c t.stream t.index (seen (read_outcome names r))) ts us rs (omega (arith, h))

  held_in_parts : (k : ℕ) (rs : List Outcome) → AreHeldIn names (take k rs) → AreHeldIn names (drop k rs) → AreHeldIn names rs
  held_in_parts zero rs h g = g
  held_in_parts (suc k) [] h g = tt
  held_in_parts (suc k) (r ∷ rs) h g = (h.0, held_in_parts k rs h.1 g)

module _ (plan : Plan) (m : Moment) (spawn_results : List SpawnResult) (sought : List Whereabouts) (remembers : Memories) (s : Seen) (layer : ℕ) (accepted : IsAccepted plan)
    (names : Naming) (rows : List TableRow) (step : Step) where
  abbrev count : ℕ
  count = length plan.spec.streams

  abbrev now : Stage
  now = eval_stage count layer

  abbrev next : Stage
  next = layer_stage count (layer + 1)

  abbrev full : List StreamRow
  full = (full_row plan m.start rows step).streams

  abbrev living : ℕ → List Living
  living n = living_in (slice_get full n)

  abbrev content_now : Content
  content_now = content_so_far plan m.start rows step now

  go : EvalsGo plan m.start rows step layer
  go = evals_go plan accepted m.start rows step layer

  module _ (layout_at : IsAt plan now s) (run : IsRunAt plan m now remembers s names rows step) (with_spawn_results : AreSpawnResults plan full now spawn_results)
      (seeks : AreSought plan m spawn_results sought remembers s layer) where
    module _ (n : ℕ) (x : Stream) (at : slice_get plan.spec.streams n ≡ Some x) where
      abbrev did : Spawned
      did = spawned_in (slice_get full n)

      abbrev pacing : Option Pacing
      pacing = eval_pacing (slice_get plan.pacings n)

      abbrev may : Bool
      may = may_be_active m.start step pacing

      abbrev time_of_birth : Instance → ℕ
      time_of_birth y = time_of step.time (slice_get rows y.born)

      abbrev active : Instance → Bool
      active y = is_active_for m.start (time_of_birth y) step pacing

      fine_here : EvalIs plan m.start rows step layer n x → is_fine (slice_get spawn_results n) ≡ not (is_bad did)
      fine_here here =
          ap is_fine (with_spawn_results n (slice_get_within plan.spec.streams n x at) ∙ ap (λ b. Some (spawn_result_of (done_of b did))) here.spawned)
          ∙ fine_is did

      here_is : not (is_input x) ≡ true → nat_eq (layer_of plan.layers (eval_node n)) layer ≡ true → EvalIs plan m.start rows step layer n x
      here_is i e = go.here n x at (not-true (is_input x) i) (eqb-true (layer_of plan.layers (eval_node n)) layer e)

      -- the code runs a stream where the model does
      pub same_runs : runs_in plan m spawn_results layer n x ≡ is_run_in plan m.start step full layer n x
      same_runs =
          and_same (not (is_input x)) _ _ (λ i.
          and_same (nat_eq (layer_of plan.layers (eval_node n)) layer) _ _ (λ e.
          ap (λ b. b && is_fine (slice_get spawn_results n)) (may_be_is m.start step m run.moment pacing)
          ∙ ap (λ b. may && b) (fine_here (here_is i e))))

      -- where it runs, the outcomes read as the model's

      module _ (here : EvalIs plan m.start rows step layer n x) where
        stands_here : StandForLives names remembers n 0 (instances_seen s n) (lives_in (slice_get content_now.streams n))
        stands_here = lives_stand names remembers s.layout.streams 0 n n (omega arith) s.streams content_now.streams run.stands.streams

        -- before they are asked they have no outcome
        pub quiet_here : is_input x ≡ false → layer_of plan.layers (eval_node n) ≡ layer → IsQuiet content_now n 0
        quiet_here i l =
            quiet_lives names remembers n (instances_seen s n) content_now stands_here
            (λ j. layout_at.silent n j x at (run_is_to_come plan m spawn_results sought s layer n x (record { no_input = i; layer_is = l })))

        births_here : is_local pacing ≡ true → map (λ (y : SeenInstance). y.born) (instances_seen s n) ≡ map (λ (l : Living). time_of_birth l.instance) (living n)
        births_here local =
            births_stand names remembers s.layout.streams 0 n n (omega arith) s.streams content_now.streams run.stands.streams (evals_locally plan accepted s layout_at.of n x at local)
            ∙ here.births

        outcomes_here : AreOutcomes (λ y. eval_outcome plan.spec content_now (is_bad did) (active y) x.eval y.params) (living n)
        outcomes_here =
            let P : List Living → Type 0 = λ ls. AreOutcomes (λ y. eval_outcome plan.spec content_now (is_bad did) (active y) x.eval y.params) ls in
            subst P (sym here.living) (all_outcomes (λ y. eval_outcome plan.spec content_now (is_bad did) (active y) x.eval y.params) _)

        silent_here : (may && not (is_bad did)) ≡ false → AreSilent (living n)
        silent_here e =
            none_given (living n) (other_outcomes _ (λ y. Missing)
            (λ y. missing_where plan.spec content_now (is_bad did) (active y) x.eval y.params (both_false may (active y) (not (is_bad did)) (never_active m.start step (time_of_birth y) pacing) e))
            (living n) outcomes_here)

        answers_here : is_bad did ≡ false → AreOutcomes (λ y. eval_outcome plan.spec content_now false (active y) x.eval y.params) (living n)
        answers_here b =
            other_outcomes _ (λ y. eval_outcome plan.spec content_now false (active y) x.eval y.params)
            (λ y. ap (λ t. eval_outcome plan.spec content_now t (active y) x.eval y.params) b) (living n) outcomes_here

        abbrev outcome_of : Instance → Answer
        outcome_of y = eval_outcome plan.spec content_now false (active y) x.eval y.params

        abbrev asks : ℕ → Bool
        asks i = asks_of (sought_at sought n) pacing m s n i

        -- what is known of an instance at a place
        record KnownAt (i : ℕ) (y : SeenInstance) (l : Living) : Type 0 where
          pub there : slice_get (instances_seen s n) i ≡ Some y
          pub params : read_params names y.params ≡ l.instance.params
          pub held : AreHeld names (the_values y.params)
          pub born : is_local pacing ≡ true → y.born ≡ time_of_birth l.instance
          pub bare : has_clause x.spawn ≡ false → l.instance.params ≡ []
          pub outcome : l.outcome ≡ outcome_of l.instance

        active_here : (i : ℕ) (y : SeenInstance) (l : Living) → KnownAt i y l → active_for_in m y.born pacing ≡ active l.instance
        active_here i y l k = active_for_is m.start step m run.moment y.born (time_of_birth l.instance) pacing k.born

        -- one that is asked has the outcome of its task
        asked_reads : (i : ℕ) (y : SeenInstance) (l : Living) (r : Outcome) → KnownAt i y l → IsResult plan m remembers s (task_at n i) r
            → (read_outcome names r ≡ l.outcome) × IsHeldIn names r
        asked_reads i y l r k result =
            let q = params_given s n i in
            let reads = given_reads plan s layout_at.of.layout n x at names i y l k.there k.params k.held k.bare in
            let P : Option SeenInstance → Type 0 = λ o. IsAnswer plan remembers s q (eval_answer plan.spec (active_for_in m (birth_at o) pacing) (slice_get plan.spec.streams n)) r in
            let answer : P (Some y) = subst P k.there result.answer in
            let sees : Sees plan names content_now remembers s q = record { naming = run.run.naming; layout = layout_at.of.layout; held = reads.1; stands = run.stands } in
            let given = answer names content_now sees run.run.texts in (
              given.0
                  ∙ (ap (λ o. eval_answer plan.spec (active_for_in m y.born pacing) o content_now (read_params names q)) at
                  ∙ (ap (λ b. eval_outcome plan.spec content_now false b x.eval (read_params names q)) (active_here i y l k)
                  ∙ (ap (λ p. eval_outcome plan.spec content_now false (active l.instance) x.eval p) reads.0
                  ∙ sym k.outcome))),
              given.1,
            )

        -- one that is not asked is not active or has a false condition, and is silent
        unasked_silent : IsSilentElsewhere plan m remembers s n (sought_at sought n) → (i : ℕ) (y : SeenInstance) (l : Living) → KnownAt i y l → asks i ≡ false → l.outcome ≡ Missing
        unasked_silent elsewhere i y l k e = by (unasked_so (sought_at sought n) pacing m s n i e)
          where
            by : (may_stand_at (sought_at sought n) i ≡ false) ⊎ (paced_for pacing m s n i ≡ false) → l.outcome ≡ Missing
            by (inl out) =
                let none = elsewhere names content_now (record { naming = run.run.naming; texts = run.run.texts; stands = run.stands }) i y k.there out in
                k.outcome
                ∙ (sym (ap (λ o. eval_answer plan.spec (active_for_in m y.born pacing) o content_now (read_params names y.params)) at
                ∙ (ap (λ b. eval_outcome plan.spec content_now false b x.eval (read_params names y.params)) (active_here i y l k)
                ∙ ap (λ p. eval_outcome plan.spec content_now false (active l.instance) x.eval p) k.params))
                ∙ none)
            by (inr rests) =
                let idle : active_for_in m (born_seen s n i) pacing ≡ false = unpaced_is_inactive pacing m s n i (evals_listed plan s layout_at.of n x at) rests in
                let born : born_seen s n i ≡ y.born = ap birth_at k.there in
                let off : active l.instance ≡ false = sym (active_here i y l k) ∙ (ap (λ t. active_for_in m t pacing) (sym born) ∙ idle) in
                k.outcome ∙ missing_where plan.spec content_now false (active l.instance) x.eval l.instance.params (ap (λ b. b && true) off)

        abbrev Reads : ℕ → List ℕ → List Living → Type 0
        Reads i ps ls = (rs : List Outcome) → AreResults plan m remembers s (tasks_at n ps) rs → ReadEach names i (tasks_at n ps) rs ls

        reads_one : IsSilentElsewhere plan m remembers s n (sought_at sought n) → (i k : ℕ) (y : SeenInstance) (l : Living) (ls : List Living) (ps : List ℕ) → KnownAt i y l → AreOfStream n (i + 1) k (tasks_at n ps) → Reads (i + 1) ps ls
            → (b : Bool) → asks i ≡ b → Reads i (if b then i ∷ ps else ps) (l ∷ ls)
        reads_one elsewhere i k y l ls ps known o rest true e [] h = absurd h
        reads_one elsewhere i k y l ls ps known o rest true e (r ∷ rs) h =
            let own = asked_reads i y l r known h.0 in
            read_asked names n i (tasks_at n ps) r rs l ls (own.0, own.1, rest rs h.1)
        reads_one elsewhere i k y l ls ps known o rest false e rs h = read_past names n i k (tasks_at n ps) rs l ls o (unasked_silent elsewhere i y l known e, rest rs h)

        read_each : IsSilentElsewhere plan m remembers s n (sought_at sought n) → (i : ℕ) (xs : List SeenInstance) (vs : List Life) (ls : List Living)
            → ((j : ℕ) → slice_get (instances_seen s n) (i + j) ≡ slice_get xs j)
            → StandForLives names remembers n i xs vs → map (λ l. l.params) vs ≡ map (λ l. l.instance.params) ls
            → (is_local pacing ≡ true → map (λ (z : SeenInstance). z.born) xs ≡ map (λ (z : Living). time_of_birth z.instance) ls)
            → (has_clause x.spawn ≡ false → AreBare ls) → AreOutcomes outcome_of ls → Reads i (places_where asks i (length xs)) ls
        read_each elsewhere i [] [] [] shown stand same births bare are [] results = tt
        read_each elsewhere i [] [] [] shown stand same births bare are (r ∷ rs) results = absurd results
        read_each elsewhere i [] [] (l ∷ ls) shown stand same births bare are rs results = absurd (cc)
        read_each elsewhere i [] (v ∷ vs) ls shown stand same births bare are rs results = absurd stand
        read_each elsewhere i (y ∷ xs) [] ls shown stand same births bare are rs results = absurd stand
        read_each elsewhere i (y ∷ xs) (v ∷ vs) [] shown stand same births bare are rs results = absurd (cc)
        read_each elsewhere i (y ∷ xs) (v ∷ vs) (l ∷ ls) shown stand same births bare are rs results =
            let params : v.params ≡ l.instance.params = cc in
            let rest : map (λ (z : Life). z.params) vs ≡ map (λ (z : Living). z.instance.params) ls = cc in
            let known : KnownAt i y l = record {
              there = ap (λ k. slice_get (instances_seen s n) k) (sym (add-zero i)) ∙ shown 0;
              params = stand.0.params ∙ params;
              held = stand.0.params_held;
              born = λ local. (let e = births local in cc);
              bare = λ e. (bare e).0;
              outcome = are.0;
            } in
            reads_one elsewhere i ((i + 1) + length xs) y l ls (places_where asks (i + 1) (length xs)) known
            (of_stream_where asks n (i + 1) (length xs) ((i + 1) + length xs) (omega arith))
            (read_each elsewhere (i + 1) xs vs ls (λ j. ap (λ k. slice_get (instances_seen s n) k) (same_place i j) ∙ shown (suc j)) stand.1 rest (λ local. (let e = births local in cc)) (λ e. (bare e).1) are.1)
            (asks i) refl rs results
          where
            same_place : (a b : ℕ) → (a + 1) + b ≡ a + suc b
            same_place a b = omega arith

        read_here : IsSilentElsewhere plan m remembers s n (sought_at sought n) → is_input x ≡ false → is_bad did ≡ false → (rs : List Outcome) → AreResults plan m remembers s (asked_tasks plan m spawn_results sought s layer n) rs
            → ReadEach names 0 (asked_tasks plan m spawn_results sought s layer n) rs (living n)
        read_here elsewhere no_input b rs =
            subst (λ ps. AreResults plan m remembers s (tasks_at n ps) rs → ReadEach names 0 (tasks_at n ps) rs (living n)) (sym (asked_where (sought_at sought n) pacing m s n))
            (read_each elsewhere 0 (instances_seen s n) (lives_in (slice_get content_now.streams n)) (living n)
            (λ j. ap (λ k. slice_get (instances_seen s n) k) (zero-add j)) stands_here here.lives births_here (bare_living plan accepted m.start rows step run.run.settled n x at no_input) (answers_here b) rs)

      -- all that is known of a stream that runs
      record KnownToRun : Type 0 where
        pub here : EvalIs plan m.start rows step layer n x
        pub is_good : is_bad did ≡ false
        pub no_input : is_input x ≡ false
        pub layer_is : layer_of plan.layers (eval_node n) ≡ layer

      reads : runs_in plan m spawn_results layer n x ≡ true → KnownToRun
      reads e =
          let run_there : is_run_in plan m.start step full layer n x ≡ true = sym same_runs ∙ e in
          let a = and_parts (not (is_input x)) _ run_there in
          let b = and_parts (nat_eq (layer_of plan.layers (eval_node n)) layer) _ a.1 in
          let d = and_parts may (not (is_bad did)) b.1 in
          record {
            here = here_is a.0 b.0;
            is_good = not-true (is_bad did) d.1;
            no_input = not-true (is_input x) a.0;
            layer_is = eqb-true (layer_of plan.layers (eval_node n)) layer b.0;
          }

      pub read_stream : runs_in plan m spawn_results layer n x ≡ true → (rs : List Outcome) → AreResults plan m remembers s (asked_tasks plan m spawn_results sought s layer n) rs
          → ReadEach names 0 (asked_tasks plan m spawn_results sought s layer n) rs (living n)
      read_stream e rs h = let k = reads e in read_here k.here (seeks n x at e) k.no_input k.is_good rs h

      pub quiet_stream : runs_in plan m spawn_results layer n x ≡ true → IsQuiet content_now n 0
      quiet_stream e = let k = reads e in quiet_here k.here k.no_input k.layer_is

      -- one that does not run, though it belongs to the layer, is silent
      pub silent_stream : runs_in plan m spawn_results layer n x ≡ false → is_input x ≡ false → layer_of plan.layers (eval_node n) ≡ layer → AreSilent (living n)
      silent_stream e i l =
          silent_here (go.here n x at i l)
          (sym (ap (λ b. not b && (nat_eq (layer_of plan.layers (eval_node n)) layer && (may && not (is_bad did)))) i
          ∙ ap (λ b. b && (may && not (is_bad did))) (eq-eqb (layer_of plan.layers (eval_node n)) layer l))
          ∙ (sym same_runs ∙ e))

    -- all outcomes of the layer are told as the model tells them

    -- what the outcomes of these tasks come to, beside what the model tells
    pub record TellsSame (d : Content) (ts : List Task) (rs : List Outcome) (told_so : List Told) : Type 0 where
      pub same : told_outcomes names d ts rs ≡ told_each d told_so
      pub held : AreHeldIn names rs

    abbrev asked : ℕ → List Task
    asked n = asked_tasks plan m spawn_results sought s layer n

    tells_stream : (n : ℕ) (x : Stream) → slice_get plan.spec.streams n ≡ Some x → (d : Content) (rs : List Outcome) (b e : Bool) → runs_in plan m spawn_results layer n x ≡ b → e ≡ b
        → (runs_in plan m spawn_results layer n x ≡ true → IsQuiet d n 0)
        → AreResults plan m remembers s (if b then asked n else []) rs
        → TellsSame d (if b then asked n else []) rs (if e then told_from n 0 (living n) else [])
    tells_stream n x at d [] false false r q quiet h = record { same = refl; held = tt }
    tells_stream n x at d (o ∷ rs) false false r q quiet h = absurd h
    tells_stream n x at d rs false true r q quiet h = absurd (cc)
    tells_stream n x at d rs true false r q quiet h = absurd (cc)
    tells_stream n x at d rs true true r q quiet h =
        let each = read_stream n x at r rs h in
        record {
          same = told_stream names n (length (instances_seen s n)) (asked n) rs (living n) d (asked_of_stream (sought_at sought n) (eval_pacing (slice_get plan.pacings n)) m s n) (quiet r) each;
          held = held_of_stream names (asked n) rs (living n) each;
        }

    -- the streams from number n on that run in the layer have no outcomes yet
    abbrev AreQuiet : ℕ → Content → Type 0
    AreQuiet n d = (k : ℕ) (x : Stream) → n ≤ k → slice_get plan.spec.streams k ≡ Some x → runs_in plan m spawn_results layer k x ≡ true → IsQuiet d k 0

    tells_streams : (n : ℕ) (xs : List Stream) → ((i : ℕ) → slice_get plan.spec.streams (n + i) ≡ slice_get xs i) → (d : Content) (rs : List Outcome) → AreQuiet n d
        → AreResults plan m remembers s (layer_tasks plan m spawn_results sought s layer n xs) rs
        → TellsSame d (layer_tasks plan m spawn_results sought s layer n xs) rs (told_in_layer plan m.start step full layer n xs)
    tells_streams n [] at d [] quiet h = record { same = refl; held = tt }
    tells_streams n [] at d (r ∷ rs) quiet h = absurd h
    tells_streams n (x ∷ xs) at d rs quiet h =
        let ts = stream_tasks plan m spawn_results sought s layer n x in
        let us = layer_tasks plan m spawn_results sought s layer (n + 1) xs in
        let size = length ts in
        let here : slice_get plan.spec.streams n ≡ Some x = ap (λ k. slice_get plan.spec.streams k) (sym (add-zero n)) ∙ at 0 in
        let run_here = is_run_in plan m.start step full layer n x in
        let told_here = if run_here then told_from n 0 (living n) else [] in
        let parts = split_results plan m remembers s ts us rs h in
        let one : TellsSame d ts (take size rs) told_here =
        tells_stream n x here d (take size rs) (runs_in plan m spawn_results layer n x) run_here refl (sym (same_runs n x here)) (quiet n x (omega arith) here) parts.0 in
        let later : AreQuiet (n + 1) (told_outcomes names d ts (take size rs)) =
        λ k y le there runs. quiet_same d (told_outcomes names d ts (take size rs)) k 0
        (ap (λ (c : Content). slice_get c.streams k) one.same ∙ told_else run_here n k (living n) d (λ e. omega (arith, le, e)))
        (quiet k y (omega (arith, le)) there runs) in
        let rest = tells_streams (n + 1) xs (λ i. ap (λ k. slice_get plan.spec.streams k) (same_place n i) ∙ at (suc i)) (told_outcomes names d ts (take size rs)) (drop size rs) later parts.1 in
        record {
          same =
              outcomes_in_parts names d ts us rs (omega (arith, count_results plan m remembers s (ts ++ us) rs h, length-append ts us))
              ∙ (rest.same
              ∙ (ap (λ c. told_each c (told_in_layer plan m.start step full layer (n + 1) xs)) one.same
              ∙ sym (told_in_parts d told_here (told_in_layer plan m.start step full layer (n + 1) xs))));
          held = held_in_parts names size rs one.held rest.held;
        }
      where
        same_place : (a b : ℕ) → (a + 1) + b ≡ a + suc b
        same_place a b = omega arith

    module _ (fresh : List Outcome) (results : AreResults plan m remembers s (layer_tasks plan m spawn_results sought s layer 0 plan.spec.streams) fresh) where
      tells_all : TellsSame content_now (layer_tasks plan m spawn_results sought s layer 0 plan.spec.streams) fresh (told_in_layer plan m.start step full layer 0 plan.spec.streams)
      tells_all =
          tells_streams 0 plan.spec.streams (λ i. ap (λ k. slice_get plan.spec.streams k) (zero-add i)) content_now fresh (λ k x le there runs. quiet_stream k x there runs) results

      -- the naming has their texts, and the content is that of the next stage
      pub held_all : AreHeldIn names fresh
      held_all = tells_all.held

      pub next_content : told_outcomes names content_now (layer_tasks plan m spawn_results sought s layer 0 plan.spec.streams) fresh ≡ content_so_far plan m.start rows step next
      next_content = tells_all.same ∙ sym go.next

      -- the spans show them

      module _ (before : List Task) (first : List Outcome) (each : length before ≡ length first) (spans : List Span) (ready : IsReadyFor plan now s before first spans)
          (shown : ShowResults plan full now names spans before first) where
        abbrev tasks : List Task
        tasks = before ++ layer_tasks plan m spawn_results sought s layer 0 plan.spec.streams

        abbrev all : List Outcome
        all = first ++ fresh

        abbrev later : List Span
        later = spans_after plan m spawn_results sought remembers s layer before first fresh spans

        abbrev ShownSo : ℕ → Option Span → Type 0
        ShownSo n o = ShowLiving names (asked_in tasks o) (in_span all o) (living n)

        -- an earlier layer's
        shown_before : (n : ℕ) (x : Stream) (p : Span) → slice_get plan.spec.streams n ≡ Some x → is_input x ≡ false → slice_get spans n ≡ Some p → is_evaluated plan.layers now n x ≡ true
            → ShownSo n (Some p)
        shown_before n x p e i g d =
            let within = (ready.within n p g).within in
            let P : List Outcome → Type 0 = λ os. ShowLiving names (asked_in before (Some p)) os (living n) in
            let Q : Option Span → Type 0 = λ o. ShowLiving names (asked_in before o) (in_span first o) (living n) in
            let R : List Task → Type 0 = λ ts. ShowLiving names ts (in_span all (Some p)) (living n) in
            subst R (sym (same_asked_in before (layer_tasks plan m spawn_results sought s layer 0 plan.spec.streams) p (omega (arith, within, each))))
            (subst P (sym (same_in_span first fresh p within)) (subst Q g (shown n x e i d)))

        -- nothing of a silent one
        shown_silent : (n : ℕ) (x : Stream) (p : Span) → slice_get plan.spec.streams n ≡ Some x → slice_get spans n ≡ Some p → is_evaluated plan.layers now n x ≡ false
            → AreSilent (living n) → ShownSo n (Some p)
        shown_silent n x p e g d silent =
            let P : ℕ → Type 0 = λ k. ShowLiving names (take k (drop p.from tasks)) (take k (drop p.from all)) (living n) in
            subst P (sym (ready.empty n x p e d g)) silent

        evaluated_by : (g : Stage) (x : Stream) (n : ℕ) → is_input x ≡ false → is_evaluated plan.layers g n x ≡ is_behind (layer_of plan.layers (eval_node n)) n g.layer g.evals
        evaluated_by g x n i = ap (λ t. if t then nat_lt n g.inputs else is_behind (layer_of plan.layers (eval_node n)) n g.layer g.evals) i

        shown_at_rest : (n : ℕ) (x : Stream) (p : Span) → slice_get plan.spec.streams n ≡ Some x → is_input x ≡ false → is_evaluated plan.layers next n x ≡ true
            → runs_in plan m spawn_results layer n x ≡ false → slice_get spans n ≡ Some p
            → (b : Bool) → is_evaluated plan.layers now n x ≡ b → (layer_of plan.layers (eval_node n) ≡ layer) ⊎ (layer_of plan.layers (eval_node n) ≡ layer → ⊥)
            → ShownSo n (Some p)
        shown_at_rest n x p e i d r g true b l = shown_before n x p e i g b
        shown_at_rest n x p e i d r g false b (inl l) = shown_silent n x p e g b (silent_stream n x e r i l)
        shown_at_rest n x p e i d r g false b (inr l) =
            absurd (let f : is_evaluated plan.layers now n x ≡ true = evaluated_by now x n i ∙ (same_behind (layer_of plan.layers (eval_node n)) n layer l ∙ (sym (evaluated_by next x n i) ∙ d)) in cc)

        shown_by : (n : ℕ) (x : Stream) (p : Span) → slice_get plan.spec.streams n ≡ Some x → is_input x ≡ false → is_evaluated plan.layers next n x ≡ true
            → SpanOf plan m remembers s spawn_results sought layer n x (slice_get spans n) p tasks all → ShownSo n (Some p)
        shown_by n x p e i d (inl h) =
            let P : List Task → Type 0 = λ ts. ShowLiving names ts (in_span all (Some p)) (living n) in
            subst P (sym h.asked_are) (read_stream n x e h.runs (in_span all (Some p)) h.results_are)
        shown_by n x p e i d (inr h) = shown_at_rest n x p e i d h.rests h.same (is_evaluated plan.layers now n x) refl (cases_eq (layer_of plan.layers (eval_node n)) layer)

        pub shows_more : ShowResults plan full next names later tasks all
        shows_more n x e i d =
            let within : n < length later = omega (arith, slice_get_within plan.spec.streams n x e, as_many_spans plan m spawn_results sought remembers s layer before first fresh spans each results ready) in
            let p = get_or later n (record { from = 0; count = 0 }) in
            let there : slice_get later n ≡ Some p = slice_get-get_or later n (record { from = 0; count = 0 }) within in
            let P : Option Span → Type 0 = λ o. ShownSo n o in
            subst P (sym there) (shown_by n x p e i d (span_of plan m spawn_results sought remembers s layer before first fresh spans each results n x p e there))
