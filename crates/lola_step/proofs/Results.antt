-- What the outcomes of a layer's tasks are.
use Rattle.std.proofs.Common.{◌≡◌, refl, ap, ◌∙◌, sym, subst, ℕ, zero, suc, ◌+◌, ◌-◌, ◌<◌, ◌≤◌, ◌⊎◌, inl, inr, List, [], ◌∷◌, ◌++◌, Bool, true, false, if◌then◌else◌, Option, Some, IsSomeAnd, IsTrue, length, slice_get, take, drop, arith, append_assoc, append-nil, get_or, length-append}
use Rattle.std.proofs.lemmas.List.{drop_at, take-append-drop, take_at, take_more, take_rest}
use Rattle.std.proofs.lemmas.Option.{same_Some}
use Rattle.lola_value.specs.Kinds.{is_outcome_of}
use Rattle.lola_value.specs.declared.value.Outcome.{Outcome}
use Rattle.lola_model.specs.Store.{Memories, Seen, instances_seen, kind_in}
use Rattle.lola_model.specs.declared.plan.Plan.{Plan}
use Rattle.lola_model.specs.declared.spec.Stream.{Stream}
use Rattle.lola_model.specs.declared.store.Whereabouts.{Whereabouts}
use Rattle.lola_step.specs.Given.{AreAnswered, AreResults}
use Rattle.lola_step.specs.Notes.{AreOfStream, AreOutcomesOf, asked_in, in_span, layer_spans, layer_tasks, runs_in, span_after, stream_tasks}
use Rattle.lola_step.specs.Tasks.{IsResult, IsResultAt}
use Rattle.lola_step.specs.declared.spawn_result.SpawnResult.{SpawnResult}
use Rattle.lola_step.specs.declared.moment.Moment.{Moment}
use Rattle.lola_step.specs.declared.scratch.Span.{Span}
use Rattle.lola_step.specs.declared.tasks.Task.{Task}
use Rattle.lola_step.proofs.Gathering.{asked_tasks, few_tasks}

module _ (plan : Plan) (m : Moment) (remembers : Memories) (s : Seen) where
  -- an outcome at each task's number
  pub each_is_result : (ts : List Task) (rs : List Outcome) → length rs ≡ length ts
      → ((i : ℕ) → i < length ts → IsSomeAnd (slice_get rs i) (λ r. IsResultAt plan m remembers s (slice_get ts i) r)) → AreResults plan m remembers s ts rs
  each_is_result [] [] e h = tt
  each_is_result [] (r ∷ rs) e h = absurd (omega (arith, e))
  each_is_result (t ∷ ts) [] e h = absurd (omega (arith, e))
  each_is_result (t ∷ ts) (r ∷ rs) e h = (h 0 (omega arith), each_is_result ts rs (omega (arith, e)) (λ i l. h (suc i) (omega (arith, l))))

  pub count_results : (ts : List Task) (rs : List Outcome) → AreResults plan m remembers s ts rs → length rs ≡ length ts
  count_results [] [] h = refl
  count_results [] (r ∷ rs) h = absurd h
  count_results (t ∷ ts) [] h = absurd h
  count_results (t ∷ ts) (r ∷ rs) h = ap suc (count_results ts rs h.1)

  -- one more task with its outcome
  are_more : (ts : List Task) (rs : List Outcome) (t : Task) (r : Outcome) → AreResults plan m remembers s ts rs → IsResult plan m remembers s t r → AreResults plan m remembers s (ts ++ t ∷ []) (rs ++ r ∷ [])
  are_more [] [] t r h k = (k, tt)
  are_more [] (q ∷ rs) t r h k = absurd h
  are_more (u ∷ ts) [] t r h k = absurd h
  are_more (u ∷ ts) (q ∷ rs) t r h k = (h.0, are_more ts rs t r h.1 k)

  pub answered_first : (before : List Outcome) → AreAnswered plan m remembers s [] before before
  answered_first before = record { fresh = []; is = sym (append-nil before); are = tt }

  pub answered_more : (ts : List Task) (i : ℕ) (d : Task) (before after more : List Outcome) (r : Outcome) → i < length ts → AreAnswered plan m remembers s (take i ts) before after
      → IsResult plan m remembers s (get_or ts i d) r → more ≡ after ++ r ∷ [] → AreAnswered plan m remembers s (take (i + 1) ts) before more
  answered_more ts i d before after more r below h k e =
      let P : List Task → Type 0 = λ us. AreAnswered plan m remembers s us before more in
      subst P (sym (take_more ts i d below)) (record {
        fresh = h.fresh ++ r ∷ [];
        is = e ∙ (ap (λ rs. rs ++ r ∷ []) h.is ∙ append_assoc before h.fresh (r ∷ []));
        are = are_more (take i ts) h.fresh (get_or ts i d) r h.are k;
      })

  -- of tasks that are listed in two parts
  pub split_results : (ts us : List Task) (rs : List Outcome) → AreResults plan m remembers s (ts ++ us) rs
      → AreResults plan m remembers s ts (take (length ts) rs) × AreResults plan m remembers s us (drop (length ts) rs)
  split_results [] us rs h = (tt, h)
  split_results (t ∷ ts) us [] h = absurd h
  split_results (t ∷ ts) us (r ∷ rs) h = let k = split_results ts us rs h.1 in ((h.0, k.0), k.1)

  -- the outcomes of a stream are of its kind
  pub kinds_of_stream : (n i k : ℕ) (ts : List Task) (rs : List Outcome) → AreOfStream n i k ts → AreResults plan m remembers s ts rs → AreOutcomesOf (kind_in (slice_get s.layout.streams n)) rs
  kinds_of_stream n i k [] [] o h = tt
  kinds_of_stream n i k [] (r ∷ rs) o h = absurd h
  kinds_of_stream n i k (t ∷ ts) [] o h = absurd h
  kinds_of_stream n i k (t ∷ ts) (r ∷ rs) o h = (
    subst (λ j. IsTrue (is_outcome_of (kind_in (slice_get s.layout.streams j)) r)) o.0 h.0.kind,
    kinds_of_stream n (t.index + 1) k ts rs o.3 h.1,
  )

  -- the spans after a layer

  module _ (spawn_results : List SpawnResult) (sought : List Whereabouts) (layer : ℕ) where
    abbrev asked : ℕ → List Task
    asked n = asked_tasks plan m spawn_results sought s layer n

    -- a stream that ran: its span has its tasks and their outcomes
    pub record HasRun (n : ℕ) (x : Stream) (p : Span) (tasks : List Task) (all : List Outcome) : Type 0 where
      pub runs : runs_in plan m spawn_results layer n x ≡ true
      pub within : p.from + p.count ≤ length all
      pub few : p.count ≤ length (instances_seen s n)
      pub asked_are : asked_in tasks (Some p) ≡ asked n
      pub results_are : AreResults plan m remembers s (asked n) (in_span all (Some p))

    -- one that did not: its span is as before
    pub record HasNotRun (n : ℕ) (x : Stream) (before : Option Span) (p : Span) : Type 0 where
      pub rests : runs_in plan m spawn_results layer n x ≡ false
      pub same : before ≡ Some p

    abbrev pub SpanOf : ℕ → Stream → Option Span → Span → List Task → List Outcome → Type 0
    SpanOf n x before p tasks all = HasRun n x p tasks all ⊎ HasNotRun n x before p

    -- of two lists with as many in front of it, the next stands there
    cut : {A : Type 0} (front here rest all : List A) (from size : ℕ) → all ≡ front ++ (here ++ rest) → from ≡ length front → size ≡ length here → take size (drop from all) ≡ here
    cut front here rest all from size e f g =
        ap (λ xs. take size (drop from xs)) e ∙ (ap (take size) (drop_at front (here ++ rest) from (sym f)) ∙ take_at here rest size (sym g))

    -- lists that begin with a stream's own tasks and their outcomes
    first_span : (n : ℕ) (x : Stream) (q p : Span) (us fore tasks : List Task) (front rest all : List Outcome) (from : ℕ)
        → tasks ≡ fore ++ (stream_tasks plan m spawn_results sought s layer n x ++ us) → from ≡ length fore → all ≡ front ++ rest → from ≡ length front
        → AreResults plan m remembers s (stream_tasks plan m spawn_results sought s layer n x ++ us) rest
        → span_after plan m spawn_results sought s layer from n x q ≡ p → SpanOf n x (Some q) p tasks all
    first_span n x q p us fore tasks front rest all from d c e f h g = by (runs_in plan m spawn_results layer n x) refl
      where
        size : ℕ
        size = length (stream_tasks plan m spawn_results sought s layer n x)

        by : (b : Bool) → runs_in plan m spawn_results layer n x ≡ b → SpanOf n x (Some q) p tasks all
        by false r = inr (record { rests = r; same = ap Some (sym (ap (λ b. if b then record { from = from; count = size } else q) r) ∙ g) })
        by true r =
            let ts = stream_tasks plan m spawn_results sought s layer n x in
            let is : record { from = from; count = size } ≡ p = sym (ap (λ b. if b then record { from = from; count = size } else q) r) ∙ g in
            let own : ts ≡ asked n = ap (λ b. if b then asked n else []) r in
            let parts = split_results ts us rest h in
            let few : size ≤ length rest = omega (arith, count_results (ts ++ us) rest h, length-append ts us) in
            let here : take size rest ≡ in_span all (Some (record { from = from; count = size })) = ap (take size) (sym (drop_at front rest from (sym f))) ∙ ap (λ rs. take size (drop from rs)) (sym e) in
            let P : List Outcome → Type 0 = λ rs. AreResults plan m remembers s (asked n) rs in
            let Q : List Task → Type 0 = λ us. AreResults plan m remembers s us (take size rest) in
            let R : Span → Type 0 = λ z. SpanOf n x (Some q) z tasks all in
            subst R is (inl (record {
              runs = r;
              within = omega (arith, few, f, ap length e, length-append front rest);
              few = few_tasks plan m spawn_results sought s layer n x;
              asked_are = cut fore ts us tasks from size d c refl ∙ own;
              results_are = subst P here (subst Q own parts.0);
            }))

    pub each_span : (n : ℕ) (xs : List Stream) (ps : List Span) (from : ℕ) (fore tasks : List Task) (front rest all : List Outcome)
        → tasks ≡ fore ++ layer_tasks plan m spawn_results sought s layer n xs → from ≡ length fore → all ≡ front ++ rest → from ≡ length front
        → AreResults plan m remembers s (layer_tasks plan m spawn_results sought s layer n xs) rest
        → (i k : ℕ) (x : Stream) (p : Span) → k ≡ n + i → slice_get xs i ≡ Some x → slice_get (layer_spans plan m spawn_results sought s layer from n xs ps) i ≡ Some p
        → SpanOf k x (slice_get ps i) p tasks all
    each_span n [] ps from fore tasks front rest all d c e f h i k x p q a b = absurd (cc)
    each_span n (y ∷ xs) [] from fore tasks front rest all d c e f h i k x p q a b = absurd (cc)
    each_span n (y ∷ xs) (o ∷ ps) from fore tasks front rest all d c e f h zero k x p q a b =
        let z : k ≡ n = omega (arith, q) in
        let w : y ≡ x = cc in
        let g = same_Some _ _ b in
        let P : ℕ → Type 0 = λ j. SpanOf j x (Some o) p tasks all in
        let Q : Stream → Type 0 = λ v. SpanOf n v (Some o) p tasks all in
        subst P (sym z) (subst Q w (first_span n y o p (layer_tasks plan m spawn_results sought s layer (n + 1) xs) fore tasks front rest all from d c e f h g))
    each_span n (y ∷ xs) (o ∷ ps) from fore tasks front rest all d c e f h (suc i) k x p q a b =
        let ts = stream_tasks plan m spawn_results sought s layer n y in
        let us = layer_tasks plan m spawn_results sought s layer (n + 1) xs in
        let size = length ts in
        let parts = split_results ts us rest h in
        let counted = count_results ts (take size rest) parts.0 in
        each_span (n + 1) xs ps (from + size) (fore ++ ts) tasks (front ++ take size rest) (drop size rest) all
        (d ∙ sym (append_assoc fore ts us)) (omega (arith, c, length-append fore ts))
        (e ∙ (ap (λ rs. front ++ rs) (sym (take-append-drop size rest)) ∙ sym (append_assoc front (take size rest) (drop size rest))))
        (omega (arith, f, counted, length-append front (take size rest))) parts.1 i k x p (omega (arith, q)) a b

-- the results after the tasks: those before, and the fresh ones
pub answered_is : (from : ℕ) (first places gathered answered : List Outcome) → from ≡ length first → gathered ≡ first ++ places → take from answered ≡ take from gathered
    → answered ≡ first ++ drop from answered
answered_is from first places gathered answered e f h =
    sym (take-append-drop from answered)
    ∙ ap (λ rs. rs ++ drop from answered) (h ∙ (ap (take from) f ∙ take_at first places from (sym e)))

-- what stands behind those of the layers before
pub behind_is : {A : Type 0} (xs front more : List A) (from : ℕ) → xs ≡ front ++ more → from ≡ length front → take (length xs - from) (drop from xs) ≡ more
behind_is xs front more from e f = take_rest xs from ∙ (ap (drop from) e ∙ drop_at front more from (sym f))
