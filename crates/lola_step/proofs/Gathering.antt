-- How the tasks of a layer are listed, stream by stream.
use Rattle.std.proofs.Common.{◌≡◌, refl, ap, ◌∙◌, sym, ℕ, suc, ◌+◌, ◌<◌, ◌≤◌, ◌⊎◌, inl, inr, List, [], ◌∷◌, ◌++◌, Option, Bool, true, false, not, ◌||◌, nat_eq, nat_lt, if◌then◌else◌, get_or, length, map, slice_get, take, drop, arith, append_assoc, length-append, add-zero, zero-add}
use Rattle.std.proofs.Math.ListN.{set}
use Rattle.std.proofs.lemmas.Bool.{and_parts, cases_eq, eqb-true, le-ltb, lt-ltb, not-true}
use Rattle.std.proofs.lemmas.List.{drop_more, drop-set-lt, take_more, take_more_set}
use Rattle.lola_model.specs.Graph.{eval_node, layer_of}
use Rattle.lola_model.specs.Model.{eval_pacing, is_input}
use Rattle.lola_model.specs.Store.{Seen, SeenStream, instances_of, instances_seen}
use Rattle.lola_model.specs.declared.pacing.Pacing.{Pacing}
use Rattle.lola_model.specs.declared.plan.Plan.{Plan}
use Rattle.lola_model.specs.declared.spec.Stream.{Stream}
use Rattle.lola_model.specs.declared.store.Whereabouts.{Whereabouts}
use Rattle.lola_step_contents.specs.Stages.{Stage, eval_stage, is_behind, is_evaluated, layer_stage}
use Rattle.lola_step_contents.proofs.Behind.{equal_behind, layer_behind, same_behind}
use Rattle.lola_step.specs.Notes.{layer_spans, layer_tasks, places_asked, runs_in, sought_at, stream_tasks, tasks_at}
use Rattle.lola_step.specs.Rooms.{room_of, rooms, to_come}
use Rattle.lola_step.specs.declared.spawn_result.SpawnResult.{SpawnResult}
use Rattle.lola_step.specs.declared.moment.Moment.{Moment}
use Rattle.lola_step.specs.declared.scratch.Span.{Span}
use Rattle.lola_step.specs.declared.tasks.Task.{Task}
use Rattle.lola_step.proofs.Places.{few_asked, length_tasks}

-- a stream that runs in a layer is no input, and belongs to the layer
pub record Runs (plan : Plan) (layer n : ℕ) (x : Stream) : Type 0 where
  pub no_input : is_input x ≡ false
  pub layer_is : layer_of plan.layers (eval_node n) ≡ layer

module _ (plan : Plan) (m : Moment) (spawn_results : List SpawnResult) (sought : List Whereabouts) (s : Seen) (layer : ℕ) where
  pub runs_so : (n : ℕ) (x : Stream) → runs_in plan m spawn_results layer n x ≡ true → Runs plan layer n x
  runs_so n x e =
      let a = and_parts (not (is_input x)) _ e in
      let b = and_parts (nat_eq (layer_of plan.layers (eval_node n)) layer) _ a.1 in
      record { no_input = not-true (is_input x) a.0; layer_is = eqb-true (layer_of plan.layers (eval_node n)) layer b.0 }

  -- the instances of stream n that are asked
  abbrev pub asked_tasks : ℕ → List Task
  asked_tasks n = tasks_at n (places_asked (sought_at sought n) (eval_pacing (slice_get plan.pacings n)) m s n)

  -- no more than it has
  pub few_tasks : (n : ℕ) (x : Stream) → length (stream_tasks plan m spawn_results sought s layer n x) ≤ length (instances_seen s n)
  few_tasks n x = by (runs_in plan m spawn_results layer n x)
    where
      by : (b : Bool) → length (if b then asked_tasks n else []) ≤ length (instances_seen s n)
      by true = few_asked (sought_at sought n) (eval_pacing (slice_get plan.pacings n)) m s n
      by false = omega arith

  -- as many as the places that are asked, where it runs
  pub count_asked : (n : ℕ) (x : Stream) (w : Whereabouts) (p : Option Pacing) → runs_in plan m spawn_results layer n x ≡ true → w ≡ sought_at sought n → p ≡ eval_pacing (slice_get plan.pacings n)
      → length (places_asked w p m s n) ≡ length (stream_tasks plan m spawn_results sought s layer n x)
  count_asked n x w p r f e =
      ap (λ v. length (places_asked v p m s n)) f
      ∙ (ap (λ q. length (places_asked (sought_at sought n) q m s n)) e
      ∙ (sym (length_tasks n (places_asked (sought_at sought n) (eval_pacing (slice_get plan.pacings n)) m s n)) ∙ sym (ap (λ b. length (if b then asked_tasks n else [])) r)))

  abbrev count : ℕ
  count = length plan.spec.streams

  abbrev now : Stage
  now = eval_stage count layer

  abbrev next : Stage
  next = layer_stage count (layer + 1)

  -- of a stream that runs nothing is done before
  pub run_is_to_come : (n : ℕ) (x : Stream) → Runs plan layer n x → is_evaluated plan.layers now n x ≡ false
  run_is_to_come n x r =
      ap (λ b. if b then nat_lt n count else is_behind (layer_of plan.layers (eval_node n)) n layer 0) r.no_input
      ∙ equal_behind (layer_of plan.layers (eval_node n)) n layer 0 false r.layer_is (le-ltb n 0 (omega arith))

  -- and all is done after the layer
  pub run_is_done : (n : ℕ) (x : Stream) → Runs plan layer n x → n < count → is_evaluated plan.layers next n x ≡ true
  run_is_done n x r h =
      ap (λ b. if b then nat_lt n count else is_behind (layer_of plan.layers (eval_node n)) n (layer + 1) 0) r.no_input
      ∙ (sym (layer_behind (layer_of plan.layers (eval_node n)) n layer (n + 1) (omega arith))
      ∙ equal_behind (layer_of plan.layers (eval_node n)) n layer (n + 1) true r.layer_is (lt-ltb n (n + 1) (omega arith)))

  -- what is done stays done
  behind_stays : (l n : ℕ) → (l ≡ layer) ⊎ (l ≡ layer → ⊥) → n < count → is_behind l n layer 0 ≡ true → is_behind l n (layer + 1) 0 ≡ true
  behind_stays l n (inl e) h d = sym (layer_behind l n layer (n + 1) (omega arith)) ∙ equal_behind l n layer (n + 1) true e (lt-ltb n (n + 1) (omega arith))
  behind_stays l n (inr e) h d = sym (same_behind l n layer e) ∙ d

  pub done_stays : (n : ℕ) (x : Stream) → n < count → is_evaluated plan.layers now n x ≡ true → is_evaluated plan.layers next n x ≡ true
  done_stays n x h d = by (is_input x) d
    where
      by : (b : Bool) → (if b then nat_lt n count else is_behind (layer_of plan.layers (eval_node n)) n layer 0) ≡ true → (if b then nat_lt n count else is_behind (layer_of plan.layers (eval_node n)) n (layer + 1) 0) ≡ true
      by true e = e
      by false e = behind_stays (layer_of plan.layers (eval_node n)) n (cases_eq (layer_of plan.layers (eval_node n)) layer) h e

  -- room for the tasks of the layer: each stream has no more instances than this
  abbrev pub HasRoom : ℕ → List Stream → List ℕ → Type 0
  HasRoom n [] ks = Unit {0}
  HasRoom n (x ∷ xs) [] = ⊥
  HasRoom n (x ∷ xs) (k ∷ ks) = (length (instances_seen s n) ≤ k) × HasRoom (n + 1) xs ks

  abbrev if_to_come : Stage → ℕ → Stream → ℕ → ℕ
  if_to_come g n x k = if is_input x || is_evaluated plan.layers g n x then 0 else k

  not_more : (a b c : Bool) (k : ℕ) → (b ≡ true → c ≡ true) → (if a || c then 0 else k) ≤ (if a || b then 0 else k)
  not_more true b c k h = omega arith
  not_more false true c k h = rw (h refl) (omega arith)
  not_more false false true k h = omega arith
  not_more false false false k h = omega arith

  stream_fits : (n : ℕ) (x : Stream) (k : ℕ) → n < count → length (instances_seen s n) ≤ k
      → length (stream_tasks plan m spawn_results sought s layer n x) + if_to_come next n x k ≤ if_to_come now n x k
  stream_fits n x k h few = by (runs_in plan m spawn_results layer n x) refl
    where
      by : (b : Bool) → runs_in plan m spawn_results layer n x ≡ b
          → length (if b then asked_tasks n else []) + if_to_come next n x k ≤ if_to_come now n x k
      by true e =
          let r = runs_so n x e in
          let a : if_to_come next n x k ≡ 0 = ap (λ t. if is_input x || t then 0 else k) (run_is_done n x r h) ∙ ap (λ t. if t || true then 0 else k) r.no_input in
          let b : if_to_come now n x k ≡ k = ap (λ t. if is_input x || t then 0 else k) (run_is_to_come n x r) ∙ ap (λ t. if t || false then 0 else k) r.no_input in
          omega (arith, a, b, few_asked (sought_at sought n) (eval_pacing (slice_get plan.pacings n)) m s n, few)
      by false e =
          let a = not_more (is_input x) (is_evaluated plan.layers now n x) (is_evaluated plan.layers next n x) k (done_stays n x h) in
          omega (arith, a)

  pub layer_fits : (n : ℕ) (xs : List Stream) (ks : List ℕ) → n + length xs ≤ count → HasRoom n xs ks
      → length (layer_tasks plan m spawn_results sought s layer n xs) + to_come plan.layers next n xs ks ≤ to_come plan.layers now n xs ks
  layer_fits n [] ks h r = omega arith
  layer_fits n (x ∷ xs) [] h r = absurd r
  layer_fits n (x ∷ xs) (k ∷ ks) h r =
      let a = stream_fits n x k (omega arith) r.0 in
      let b = layer_fits (n + 1) xs ks (omega arith) r.1 in
      let c = length-append (stream_tasks plan m spawn_results sought s layer n x) (layer_tasks plan m spawn_results sought s layer (n + 1) xs) in
      omega (arith, a, b, c)

  nothing : Span
  nothing = record { from = 0; count = 0 }

  abbrev span_of : ℕ → ℕ → Stream → Span
  span_of from n x = record { from = from; count = length (stream_tasks plan m spawn_results sought s layer n x) }

  abbrev spans_past : ℕ → ℕ → Stream → List Stream → List Span → List Span
  spans_past from n x xs ps = layer_spans plan m spawn_results sought s layer (from + length (stream_tasks plan m spawn_results sought s layer n x)) (n + 1) xs ps

  -- as one more stream is looked at
  pub span_step : (from n : ℕ) (x : Stream) (xs : List Stream) (spans : List Span) → n < length spans
      → take (n + 1) (if runs_in plan m spawn_results layer n x then set spans n (span_of from n x) else spans)
      ++ layer_spans plan m spawn_results sought s layer (from + length (stream_tasks plan m spawn_results sought s layer n x)) (n + 1) xs (drop (n + 1) (if runs_in plan m spawn_results layer n x then set spans n (span_of from n x) else spans))
      ≡ take n spans ++ layer_spans plan m spawn_results sought s layer from n (x ∷ xs) (drop n spans)
  span_step from n x xs spans h =
      by (runs_in plan m spawn_results layer n x)
      ∙ ap (λ ps. take n spans ++ layer_spans plan m spawn_results sought s layer from n (x ∷ xs) ps) (sym (drop_more spans n nothing h))
    where
      by : (b : Bool)
          → take (n + 1) (if b then set spans n (span_of from n x) else spans) ++ spans_past from n x xs (drop (n + 1) (if b then set spans n (span_of from n x) else spans))
          ≡ take n spans ++ ((if b then span_of from n x else get_or spans n nothing) ∷ spans_past from n x xs (drop (n + 1) spans))
      by true =
          ap (λ ys. ys ++ spans_past from n x xs (drop (n + 1) (set spans n (span_of from n x)))) (take_more_set spans n (span_of from n x) h)
          ∙ (ap (λ ps. (take n spans ++ span_of from n x ∷ []) ++ spans_past from n x xs ps) (drop-set-lt (n + 1) spans n (span_of from n x) (omega arith))
          ∙ append_assoc (take n spans) (span_of from n x ∷ []) (spans_past from n x xs (drop (n + 1) spans)))
      by false =
          ap (λ ys. ys ++ spans_past from n x xs (drop (n + 1) spans)) (take_more spans n nothing h)
          ∙ append_assoc (take n spans) (get_or spans n nothing ∷ []) (spans_past from n x xs (drop (n + 1) spans))

  pub length_spans : (n : ℕ) (xs : List Stream) (ps : List Span) (from : ℕ) → length (layer_spans plan m spawn_results sought s layer from n xs ps) ≡ length ps
  length_spans n [] ps from = refl
  length_spans n (x ∷ xs) [] from = refl
  length_spans n (x ∷ xs) (p ∷ ps) from = ap suc (length_spans (n + 1) xs ps (from + length (stream_tasks plan m spawn_results sought s layer n x)))

  -- the rooms of a store are such
  rooms_by : (n : ℕ) (xs : List Stream) (ys : List SeenStream) → length ys ≡ length xs → ((i : ℕ) → slice_get s.streams (n + i) ≡ slice_get ys i) → HasRoom n xs (map room_of ys)
  rooms_by n [] ys e h = tt
  rooms_by n (x ∷ xs) [] e h = absurd (omega (arith, e))
  rooms_by n (x ∷ xs) (y ∷ ys) e h = (
    (let a : length (instances_seen s n) ≡ length y.instances = ap (λ k. length (instances_of (slice_get s.streams k))) (sym (add-zero n)) ∙ ap (λ o. length (instances_of o)) (h 0) in omega (arith, a)),
    rooms_by (n + 1) xs ys (omega (arith, e)) (λ i. ap (λ k. slice_get s.streams k) (same_place n i) ∙ h (suc i)),
  )
    where
      same_place : (a b : ℕ) → (a + 1) + b ≡ a + suc b
      same_place a b = omega arith

  pub all_rooms : length s.streams ≡ length plan.spec.streams → HasRoom 0 plan.spec.streams (rooms s)
  all_rooms e = rooms_by 0 plan.spec.streams s.streams e (λ i. ap (λ k. slice_get s.streams k) (zero-add i))

  -- the loop goes on

  pub gathers_tasks : (n : ℕ) (x : Stream) (streams : List Stream) (old new all : List Task) → drop n streams ≡ x ∷ drop (n + 1) streams
      → new ≡ old ++ stream_tasks plan m spawn_results sought s layer n x
      → old ++ layer_tasks plan m spawn_results sought s layer n (drop n streams) ≡ all → new ++ layer_tasks plan m spawn_results sought s layer (n + 1) (drop (n + 1) streams) ≡ all
  gathers_tasks n x streams old new all at is so =
      ap (λ ts. ts ++ layer_tasks plan m spawn_results sought s layer (n + 1) (drop (n + 1) streams)) is
      ∙ (append_assoc old (stream_tasks plan m spawn_results sought s layer n x) (layer_tasks plan m spawn_results sought s layer (n + 1) (drop (n + 1) streams))
      ∙ (ap (λ xs. old ++ layer_tasks plan m spawn_results sought s layer n xs) (sym at) ∙ so))

  pub gathers_spans : (n : ℕ) (x : Stream) (streams : List Stream) (from later noted : ℕ) (old new all : List Span) → n < length old → drop n streams ≡ x ∷ drop (n + 1) streams
      → later ≡ from + length (stream_tasks plan m spawn_results sought s layer n x) → noted ≡ from
      → new ≡ (if runs_in plan m spawn_results layer n x then set old n (span_of noted n x) else old)
      → take n old ++ layer_spans plan m spawn_results sought s layer from n (drop n streams) (drop n old) ≡ all
      → take (n + 1) new ++ layer_spans plan m spawn_results sought s layer later (n + 1) (drop (n + 1) streams) (drop (n + 1) new) ≡ all
  gathers_spans n x streams from later noted old new all h at e f is so =
      ap (λ k. take (n + 1) new ++ layer_spans plan m spawn_results sought s layer k (n + 1) (drop (n + 1) streams) (drop (n + 1) new)) e
      ∙ (ap (λ ps. take (n + 1) ps ++ spans_past from n x (drop (n + 1) streams) (drop (n + 1) ps)) (is ∙ ap (λ k. if runs_in plan m spawn_results layer n x then set old n (span_of k n x) else old) f)
      ∙ (span_step from n x (drop (n + 1) streams) old h
      ∙ (ap (λ xs. take n old ++ layer_spans plan m spawn_results sought s layer from n xs (drop n old)) (sym at) ∙ so)))

-- an element that is read at a place
pub drop_here : {A : Type 0} (xs : List A) (i : ℕ) (x : A) → i < length xs → x ≡ get_or xs i x → drop i xs ≡ x ∷ drop (i + 1) xs
drop_here xs i x h e = drop_more xs i x h ∙ ap (λ y. y ∷ drop (i + 1) xs) (sym e)
