-- What holds of the streams below a number in each loop over those that have a duty, and that it goes on past a stream that has none.
use Rattle.std.proofs.Common.{◌≡◌, refl, ap, ◌∙◌, sym, subst, ℕ, ◌+◌, ◌<◌, ◌≤◌, List, [], ◌∷◌, ◌++◌, Option, Some, None, Bool, true, false, not, ◌&&◌, if◌then◌else◌, nat_eq, get_or, set, length, slice_get, take, drop, vec_len, arith, append-nil}
use Rattle.std.proofs.lemmas.Bool.{eq-eqb, not-false, not-true}
use Rattle.std.proofs.lemmas.List.{set-get_or, take-append-drop}
use Rattle.std.proofs.lemmas.Option.{slice_get-get_or, slice_get_within}
use Rattle.std.specs.Global.{Vec}
use Rattle.lola_value.specs.declared.value.Outcome.{Outcome}
use Rattle.lola_model.specs.Acceptance.{IsAccepted}
use Rattle.lola_model.specs.Graph.{eval_node, layer_of, spawn_node}
use Rattle.lola_model.specs.Model.{eval_pacing, is_input}
use Rattle.lola_model.specs.Named.{has_clause}
use Rattle.lola_model.specs.Store.{Memories, Seen}
use Rattle.lola_model.specs.declared.plan.Plan.{Plan}
use Rattle.lola_model.specs.declared.spec.Clause.{Clause}
use Rattle.lola_model.specs.declared.spec.Stream.{Stream}
use Rattle.lola_model.specs.declared.store.Whereabouts.{Whereabouts}
use Rattle.lola_model.specs.declared.journal.Show.{Show}
use Rattle.lola_step.specs.Closings.{AreUpTo, all_places}
use Rattle.lola_step.specs.Found.{all_step_values, is_hidden, step_values_among}
use Rattle.lola_step.specs.Scratches.{no_span}
use Rattle.lola_step.specs.declared.step_value.StepValue.{StepValue}
use Rattle.lola_step.specs.Moments.{may_be_active_in}
use Rattle.lola_step.specs.Notes.{asked_in, in_span, is_fine, layer_spans, layer_tasks, places_of, runs_in, sought_at, stream_tasks}
use Rattle.lola_step.specs.Rooms.{rooms, total}
use Rattle.lola_step.specs.Schedules.{has_parameters, has_duty}
use Rattle.lola_step.specs.Sought.{AreUnsought}
use Rattle.lola_step.specs.Spawns.{IsNextSpawn}
use Rattle.lola_step.specs.Steps.{AreInputs}
use Rattle.lola_step.specs.declared.spawn_result.SpawnResult.{SpawnResult}
use Rattle.lola_step.specs.declared.spawn_result.SpawnResult.TheVariants as spawn_result
use Rattle.lola_step.specs.declared.moment.Moment.{Moment}
use Rattle.lola_step.specs.declared.schedule.Duty.{Duty}
use Rattle.lola_step.specs.declared.schedule.Duty.TheVariants as duty
use Rattle.lola_step.specs.declared.scratch.Span.{Span}
use Rattle.lola_step.specs.declared.tasks.Task.{Task}
use Rattle.lola_step.proofs.Closable.{up_to_first, up_to_stream}
use Rattle.lola_step.proofs.Conditions.{FoundBefore, found_stream, none_without}
use Rattle.lola_step.proofs.Elements.{cut, drop_past}
use Rattle.lola_step.proofs.Gathering.{asked_tasks, gathers_spans, gathers_tasks}
use Rattle.lola_step.proofs.Seeking.{SoughtUpTo, sought_kept, sought_none, unknown_silent}
use Rattle.lola_step.proofs.SpawnDuties.{AreSpawned, no_clause_next, one_more_spawned, other_layer_next}
use Rattle.lola_step.proofs.Standing.{room_there}
use Rattle.lola_step.proofs.Telling.{AreTold, none_told}
use Rattle.lola_step.proofs.Duties.{IsDuty, IsWalk, walk_done, walk_item}
use Rattle.lola_step.proofs.Valued.{streams_step}

-- a stream has its duty, whichever way it is known
pub has_duty_there : (plan : Plan) (t : Duty) (n : ℕ) (x y : Stream) → slice_get plan.spec.streams n ≡ Some x → slice_get plan.spec.streams n ≡ Some y → has_duty plan t n x ≡ true → has_duty plan t n y ≡ true
has_duty_there plan t n x y e f h = let q : Some x ≡ Some y = sym e ∙ f in let p : x ≡ y = cc in subst (λ (z : Stream). has_duty plan t n z ≡ true) p h

-- what a stream without a duty is

pub no_clause : (o : Option Clause) → has_clause o ≡ false → o ≡ None
no_clause None e = refl
no_clause (Some k) e = absurd (cc)

not_equal : (a b : ℕ) → nat_eq a b ≡ false → a ≡ b → ⊥
not_equal a b q e = let t : nat_eq a b ≡ true = eq-eqb a b e in cc

not_both : (a b : Bool) → a ≡ true → b ≡ true → (a && b) ≡ false → ⊥
not_both true true e f g = cc
not_both true false e f g = cc
not_both false b e f g = cc

not_first : (a b c : Bool) → (a && b) ≡ false → (a && (b && c)) ≡ false
not_first true true c e = absurd (cc)
not_first true false c e = refl
not_first false b c e = refl

module _ (plan : Plan) (m : Moment) (spawn_results : List SpawnResult) (layer n : ℕ) (x : Stream) where
  abbrev paced : Bool
  paced = may_be_active_in m (eval_pacing (slice_get plan.pacings n)) && is_fine (slice_get spawn_results n)

  -- a stream without a duty in a layer does not run in it
  pub never_runs : has_duty plan (duty.Eval layer) n x ≡ false → runs_in plan m spawn_results layer n x ≡ false
  never_runs e = not_first (not (is_input x)) (nat_eq (layer_of plan.layers (eval_node n)) layer) paced e

-- close clauses

-- no stream below a number has a fault, and the places of their instances that are closed are listed
pub record AreFoundBelow (plan : Plan) (m : Moment) (remembers : Memories) (s : Seen) (closing : Vec Task) (n : ℕ) : Type 0 where
  pub closable : AreUpTo s (record { stream = n; index = 0 }) closing.items
  pub found : FoundBefore plan m remembers s n closing.items
  pub count : vec_len closing + total (drop n (rooms s)) ≤ total (rooms s)

-- below the first there is none
pub found_first : (plan : Plan) (m : Moment) (remembers : Memories) (s : Seen) (closing : Vec Task) → closing.items ≡ [] → AreFoundBelow plan m remembers s closing 0
found_first plan m remembers s closing none = record {
  closable = up_to_first s (record { stream = 0; index = 0 }) closing.items none;
  found = λ names c shown. (refl, ap (λ ts. places_of ts ++ all_places plan names c m s 0 plan.spec.streams) none);
  count = omega (arith, closing.ok.0, ap length none);
}

pub found_past : (plan : Plan) (m : Moment) (remembers : Memories) (s : Seen) (closing : Vec Task) (n : ℕ) (x : Stream) → slice_get plan.spec.streams n ≡ Some x
    → has_duty plan duty.Close n x ≡ false → AreFoundBelow plan m remembers s closing n → AreFoundBelow plan m remembers s closing (n + 1)
found_past plan m remembers s closing n x at none h = record {
  closable = up_to_stream s n 0 closing.items h.closable;
  found = found_stream plan m remembers s n x at closing.items closing.items h.found (none_without plan m remembers s n x closing.items (no_clause x.close none));
  count = omega (arith, room_there s n, h.count);
}

module _ (plan : Plan) (m : Moment) (remembers : Memories) (s : Seen) (closing : Vec Task) (duties : List ℕ) (k : ℕ)
    (walk : IsWalk (has_duty plan duty.Close) plan.spec.streams (AreFoundBelow plan m remembers s closing) (drop k duties)) where
  -- the next of them
  pub found_duty : k < length duties → IsDuty (has_duty plan duty.Close) plan.spec.streams (AreFoundBelow plan m remembers s closing) (get_or duties k 0) (drop (k + 1) duties)
  found_duty lt = walk_item (has_duty plan duty.Close) plan.spec.streams (AreFoundBelow plan m remembers s closing) (found_past plan m remembers s closing) duties k lt walk

  -- all of them
  pub found_end : length duties ≤ k → AreFoundBelow plan m remembers s closing (length plan.spec.streams)
  found_end past = walk_done (has_duty plan duty.Close) plan.spec.streams (AreFoundBelow plan m remembers s closing) (found_past plan m remembers s closing) duties k past walk

-- instances of a layer

module _ (plan : Plan) (m : Moment) (spawn_results : List SpawnResult) (sought : List Whereabouts) (s : Seen) (layer : ℕ) where
  -- the tasks of the streams below a number are listed, and their spans are noted
  pub record AreGathered (old : List Task) (spans : List Span) (new : List Task) (spans' : List Span) (n : ℕ) : Type 0 where
    pub tasks : new ++ layer_tasks plan m spawn_results sought s layer n (drop n plan.spec.streams) ≡ old ++ layer_tasks plan m spawn_results sought s layer 0 plan.spec.streams
    pub noted : take n spans' ++ layer_spans plan m spawn_results sought s layer (length new) n (drop n plan.spec.streams) (drop n spans')
        ≡ layer_spans plan m spawn_results sought s layer (length old) 0 plan.spec.streams spans

  -- below the first there are none
  pub gathered_first : (old : List Task) (spans : List Span) → AreGathered old spans old spans 0
  gathered_first old spans = record { tasks = refl; noted = refl }

  pub gathered_past : (old : List Task) (spans : List Span) (new : List Task) (spans' : List Span) → length spans' ≡ length plan.spec.streams
      → (n : ℕ) (x : Stream) → slice_get plan.spec.streams n ≡ Some x → has_duty plan (duty.Eval layer) n x ≡ false
      → AreGathered old spans new spans' n → AreGathered old spans new spans' (n + 1)
  gathered_past old spans new spans' long n x at none h =
      let idle : runs_in plan m spawn_results layer n x ≡ false = never_runs plan m spawn_results layer n x none in
      let empty : stream_tasks plan m spawn_results sought s layer n x ≡ [] = ap (λ b. if b then asked_tasks plan m spawn_results sought s layer n else []) idle in
      let there : drop n plan.spec.streams ≡ x ∷ drop (n + 1) plan.spec.streams = cut plan.spec.streams n x at in
      let below : n < length spans' = omega (arith, long, slice_get_within plan.spec.streams n x at) in
      record {
        tasks = gathers_tasks plan m spawn_results sought s layer n x plan.spec.streams new new _ there (sym (append-nil new) ∙ ap (λ ts. new ++ ts) (sym empty)) h.tasks;
        noted = gathers_spans plan m spawn_results sought s layer n x plan.spec.streams (length new) (length new) (length new) spans' spans' _ below there
            (omega (arith, ap length empty)) refl
            (sym (ap (λ b. if b then set spans' n (record { from = length new; count = length (stream_tasks plan m spawn_results sought s layer n x) }) else spans') idle)) h.noted;
      }

  -- and past the last that is all
  pub record IsGathered (old : List Task) (spans : List Span) (new : List Task) (spans' : List Span) : Type 0 where
    pub tasks : new ≡ old ++ layer_tasks plan m spawn_results sought s layer 0 plan.spec.streams
    pub noted : spans' ≡ layer_spans plan m spawn_results sought s layer (length old) 0 plan.spec.streams spans

  pub gathered_all : (old : List Task) (spans : List Span) (new : List Task) (spans' : List Span)
      → AreGathered old spans new spans' (length plan.spec.streams) → IsGathered old spans new spans'
  gathered_all old spans new spans' h =
      let n : ℕ = length plan.spec.streams in
      let none : drop n plan.spec.streams ≡ [] = drop_past plan.spec.streams n (omega arith) in
      record {
        tasks = sym (append-nil new) ∙ (ap (λ xs. new ++ layer_tasks plan m spawn_results sought s layer n xs) (sym none) ∙ h.tasks);
        noted = sym (take-append-drop n spans') ∙ (ap (λ xs. take n spans' ++ layer_spans plan m spawn_results sought s layer (length new) n xs (drop n spans')) (sym none) ∙ h.noted);
      }

  module _ (old : List Task) (spans : List Span) (new : List Task) (spans' : List Span) (long : length spans' ≡ length plan.spec.streams)
      (duties : List ℕ) (k : ℕ) (walk : IsWalk (has_duty plan (duty.Eval layer)) plan.spec.streams (AreGathered old spans new spans') (drop k duties)) where
    -- the next of them
    pub gathered_duty : k < length duties → IsDuty (has_duty plan (duty.Eval layer)) plan.spec.streams (AreGathered old spans new spans') (get_or duties k 0) (drop (k + 1) duties)
    gathered_duty lt =
        walk_item (has_duty plan (duty.Eval layer)) plan.spec.streams (AreGathered old spans new spans') (gathered_past old spans new spans' long) duties k lt walk

    -- all of them
    pub gathered_end : length duties ≤ k → IsGathered old spans new spans'
    gathered_end past =
        gathered_all old spans new spans'
        (walk_done (has_duty plan (duty.Eval layer)) plan.spec.streams (AreGathered old spans new spans') (gathered_past old spans new spans' long) duties k past walk)

-- where instances of streams with parameters stand

later_false : (a b : Bool) → a ≡ true → (a && b) ≡ false → b ≡ false
later_false true b e f = f
later_false false b e f = absurd (cc)

pub is_first : (a b : Bool) → (a && b) ≡ true → a ≡ true
is_first true b e = refl
is_first false b e = absurd (cc)

pub is_second : (a b : Bool) → (a && b) ≡ true → b ≡ true
is_second true b e = e
is_second false b e = absurd (cc)

-- one that is sought belongs to the layer, and has parameters
pub seek_evals : (plan : Plan) (layer n : ℕ) (x : Stream) → has_duty plan (duty.Seek layer) n x ≡ true → has_duty plan (duty.Eval layer) n x ≡ true
seek_evals plan layer n x e = is_second (has_parameters x) (not (is_input x) && nat_eq (layer_of plan.layers (eval_node n)) layer) e

pub seek_has : (plan : Plan) (layer n : ℕ) (x : Stream) → has_duty plan (duty.Seek layer) n x ≡ true → has_parameters x ≡ true
seek_has plan layer n x e = is_first (has_parameters x) (not (is_input x) && nat_eq (layer_of plan.layers (eval_node n)) layer) e

module _ (plan : Plan) (m : Moment) (spawn_results : List SpawnResult) (remembers : Memories) (s : Seen) (layer : ℕ) where
  -- of the streams below a number it is noted, and nothing of those without parameters
  abbrev pub AreNotedBelow : List Whereabouts → ℕ → Type 0
  AreNotedBelow sought n = SoughtUpTo plan m spawn_results remembers s layer n sought × AreUnsought plan sought

  -- below the first nothing is to be noted
  pub sought_first : (sought : List Whereabouts) → AreUnsought plan sought → AreNotedBelow sought 0
  sought_first sought h = (λ n x below. absurd (omega (arith, below)), h)

  pub sought_past : (sought : List Whereabouts) (n : ℕ) (x : Stream) → slice_get plan.spec.streams n ≡ Some x → has_duty plan (duty.Seek layer) n x ≡ false
      → AreNotedBelow sought n → AreNotedBelow sought (n + 1)
  sought_past sought n x at none h = (by (has_parameters x) refl, h.1)
    where
      by : (b : Bool) → has_parameters x ≡ b → SoughtUpTo plan m spawn_results remembers s layer (n + 1) sought
      by false e = sought_kept plan m spawn_results remembers s layer n x sought at (unknown_silent plan m remembers s n (sought_at sought n) (h.1 n x at e)) h.0
      by true e =
          sought_none plan m spawn_results remembers s layer n x sought at
          (never_runs plan m spawn_results layer n x (later_false (has_parameters x) (not (is_input x) && nat_eq (layer_of plan.layers (eval_node n)) layer) e none)) h.0

  module _ (sought : List Whereabouts) (duties : List ℕ) (k : ℕ) (walk : IsWalk (has_duty plan (duty.Seek layer)) plan.spec.streams (AreNotedBelow sought) (drop k duties)) where
    -- the next of them
    pub sought_duty : k < length duties → IsDuty (has_duty plan (duty.Seek layer)) plan.spec.streams (AreNotedBelow sought) (get_or duties k 0) (drop (k + 1) duties)
    sought_duty lt = walk_item (has_duty plan (duty.Seek layer)) plan.spec.streams (AreNotedBelow sought) (sought_past sought) duties k lt walk

    -- all of them
    pub sought_end : length duties ≤ k → AreNotedBelow sought (length plan.spec.streams)
    sought_end past = walk_done (has_duty plan (duty.Seek layer)) plan.spec.streams (AreNotedBelow sought) (sought_past sought) duties k past walk

-- spawn clauses

module _ (plan : Plan) (accepted : IsAccepted plan) (m : Moment) (layer : ℕ) (spawn_results spawn_results' : List SpawnResult) (remembers : Memories) (s : Seen) (remembers' : Memories) (s' : Seen)
    (long : length spawn_results' ≡ length plan.spec.streams) where
  pub spawned_past : (n : ℕ) (x : Stream) → slice_get plan.spec.streams n ≡ Some x → has_duty plan (duty.Spawn layer) n x ≡ false
      → AreSpawned plan m layer n spawn_results spawn_results' remembers s remembers' s' → AreSpawned plan m layer (n + 1) spawn_results spawn_results' remembers s remembers' s'
  spawned_past n x at none h =
      let k : SpawnResult = get_or spawn_results' n spawn_result.Fine in
      let below : n < length plan.spec.streams = slice_get_within plan.spec.streams n x at in
      let P : List SpawnResult → Type 0 = λ ms. AreSpawned plan m layer (n + 1) spawn_results ms remembers s remembers' s' in
      subst P (set-get_or spawn_results' n spawn_result.Fine)
      (one_more_spawned plan m layer n spawn_results spawn_results' remembers s remembers' s' remembers' s' k k h long below (slice_get-get_or spawn_results' n spawn_result.Fine (omega (arith, long, below)))
      (by k (has_clause x.spawn) (nat_eq (layer_of plan.layers (spawn_node n)) layer) refl refl none))
    where
      by : (k : SpawnResult) (b c : Bool) → has_clause x.spawn ≡ b → nat_eq (layer_of plan.layers (spawn_node n)) layer ≡ c → (has_clause x.spawn && nat_eq (layer_of plan.layers (spawn_node n)) layer) ≡ false
          → IsNextSpawn plan m layer n k k remembers' s' remembers' s'
      by k false c e f g = no_clause_next plan accepted m layer n x at k remembers' s' h.at (no_clause x.spawn e)
      by k true false e f g = other_layer_next plan accepted m layer n x at k remembers' s' h.at (not_equal (layer_of plan.layers (spawn_node n)) layer f)
      by k true true e f g = absurd (not_both (has_clause x.spawn) (nat_eq (layer_of plan.layers (spawn_node n)) layer) e f g)

  module _ (duties : List ℕ) (k : ℕ) (walk : IsWalk (has_duty plan (duty.Spawn layer)) plan.spec.streams (λ n. AreSpawned plan m layer n spawn_results spawn_results' remembers s remembers' s') (drop k duties)) where
    -- the next of them
    pub spawned_duty : k < length duties
        → IsDuty (has_duty plan (duty.Spawn layer)) plan.spec.streams (λ n. AreSpawned plan m layer n spawn_results spawn_results' remembers s remembers' s') (get_or duties k 0) (drop (k + 1) duties)
    spawned_duty lt = walk_item (has_duty plan (duty.Spawn layer)) plan.spec.streams (λ n. AreSpawned plan m layer n spawn_results spawn_results' remembers s remembers' s') spawned_past duties k lt walk

    -- all of them
    pub spawned_end : length duties ≤ k → AreSpawned plan m layer (length plan.spec.streams) spawn_results spawn_results' remembers s remembers' s'
    spawned_end past = walk_done (has_duty plan (duty.Spawn layer)) plan.spec.streams (λ n. AreSpawned plan m layer n spawn_results spawn_results' remembers s remembers' s') spawned_past duties k past walk

-- inputs

module _ (plan : Plan) (accepted : IsAccepted plan) (is_row : Bool) (inputs : List Outcome) (given : AreInputs is_row plan.spec.streams inputs) (k : ℕ)
    (remembers : Memories) (s : Seen) (remembers' : Memories) (s' : Seen) where
  pub told_past : (n : ℕ) (x : Stream) → slice_get plan.spec.streams n ≡ Some x → has_duty plan duty.Input n x ≡ false
      → AreTold plan is_row inputs n k remembers s remembers' s' → AreTold plan is_row inputs (n + 1) k remembers s remembers' s'
  told_past n x at none h = none_told plan accepted is_row inputs given n k x at remembers s remembers' s' h none

  module _ (duties : List ℕ) (i : ℕ) (walk : IsWalk (has_duty plan duty.Input) plan.spec.streams (λ n. AreTold plan is_row inputs n k remembers s remembers' s') (drop i duties)) where
    -- the next of them
    pub told_duty : i < length duties
        → IsDuty (has_duty plan duty.Input) plan.spec.streams (λ n. AreTold plan is_row inputs n k remembers s remembers' s') (get_or duties i 0) (drop (i + 1) duties)
    told_duty lt = walk_item (has_duty plan duty.Input) plan.spec.streams (λ n. AreTold plan is_row inputs n k remembers s remembers' s') told_past duties i lt walk

    -- all of them
    pub told_end : length duties ≤ i → AreTold plan is_row inputs (length plan.spec.streams) k remembers s remembers' s'
    told_end past = walk_done (has_duty plan duty.Input) plan.spec.streams (λ n. AreTold plan is_row inputs n k remembers s remembers' s') told_past duties i past walk

-- values that may have lines

module _ (plan : Plan) (show : Show) (s : Seen) (tasks : List Task) (results : List Outcome) (spans : List Span) where
  -- those of the streams below a number are collected, and there is room for the others
  pub record AreCollected (step_values : Vec StepValue) (n : ℕ) : Type 0 where
    pub items : step_values.items ++ all_step_values show s tasks results n (drop n plan.spec.streams) (drop n spans) ≡ all_step_values show s tasks results 0 plan.spec.streams spans
    pub count : vec_len step_values + total (drop n (rooms s)) ≤ total (rooms s)

  -- below the first there are none
  pub collected_first : (step_values : Vec StepValue) → step_values.items ≡ [] → AreCollected step_values 0
  collected_first step_values none = record {
    items = ap (λ (vs : List StepValue). vs ++ all_step_values show s tasks results 0 plan.spec.streams spans) none;
    count = omega (arith, step_values.ok.0, ap length none);
  }

  module _ (long : length spans ≡ length plan.spec.streams) where
    pub collected_past : (step_values : Vec StepValue) (n : ℕ) (x : Stream) → slice_get plan.spec.streams n ≡ Some x → has_duty plan (duty.Shown show) n x ≡ false
        → AreCollected step_values n → AreCollected step_values (n + 1)
    collected_past step_values n x at none h =
        let p : Span = get_or spans n no_span in
        let hidden : is_hidden show x ≡ true = not-false (is_hidden show x) none in
        let vs : List StepValue = step_values_among s n (asked_in tasks (Some p)) (in_span results (Some p)) in
        record {
          items = streams_step show s tasks results plan.spec.streams spans n step_values.items h.items x no_span _ _ step_values.items at (omega (arith, long, slice_get_within plan.spec.streams n x at)) refl refl
              (sym (append-nil step_values.items) ∙ ap (λ b. step_values.items ++ (if b then [] else vs)) (sym hidden));
          count = omega (arith, room_there s n, h.count);
        }

    -- the values of one more stream that may have some
    pub collected_next : (step_values step_values' : Vec StepValue) (n : ℕ) (x : Stream) (p : Span) → slice_get plan.spec.streams n ≡ Some x → has_duty plan (duty.Shown show) n x ≡ true → p ≡ get_or spans n no_span
        → step_values'.items ≡ step_values.items ++ step_values_among s n (asked_in tasks (Some p)) (in_span results (Some p))
        → vec_len step_values' + total (drop (n + 1) (rooms s)) ≤ total (rooms s)
        → AreCollected step_values n → AreCollected step_values' (n + 1)
    collected_next step_values step_values' n x p at duties same e count h =
        let shown : is_hidden show x ≡ false = not-true (is_hidden show x) duties in
        let vs : List StepValue = step_values_among s n (asked_in tasks (Some p)) (in_span results (Some p)) in
        record {
          items = streams_step show s tasks results plan.spec.streams spans n step_values.items h.items x no_span _ _ step_values'.items at (omega (arith, long, slice_get_within plan.spec.streams n x at))
              (ap (λ q. asked_in tasks (Some q)) same) (ap (λ q. in_span results (Some q)) same)
              (e ∙ ap (λ b. step_values.items ++ (if b then [] else vs)) (sym shown));
          count = count;
        }

    module _ (step_values : Vec StepValue) (duties : List ℕ) (k : ℕ) (walk : IsWalk (has_duty plan (duty.Shown show)) plan.spec.streams (AreCollected step_values) (drop k duties)) where
      -- the next of them
      pub collected_duty : k < length duties → IsDuty (has_duty plan (duty.Shown show)) plan.spec.streams (AreCollected step_values) (get_or duties k 0) (drop (k + 1) duties)
      collected_duty lt = walk_item (has_duty plan (duty.Shown show)) plan.spec.streams (AreCollected step_values) (collected_past step_values) duties k lt walk

      -- all of them
      pub collected_end : length duties ≤ k → AreCollected step_values (length plan.spec.streams)
      collected_end past = walk_done (has_duty plan (duty.Shown show)) plan.spec.streams (AreCollected step_values) (collected_past step_values) duties k past walk
