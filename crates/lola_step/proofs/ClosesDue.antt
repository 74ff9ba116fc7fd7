-- The close conditions of the instances that are listed at a moment are those of all instances of their stream.
use Rattle.std.proofs.Common.{◌≡◌, refl, ap, ◌∙◌, sym, subst, ℕ, zero, suc, ◌+◌, ◌<◌, ◌≤◌, List, [], ◌∷◌, ◌++◌, Option, Some, None, Bool, true, false, if◌then◌else◌, slice_get, length, drop, arith, append_assoc, append-nil, add-one, IsTrue}
use Rattle.std.proofs.lemmas.List.{map-append}
use Rattle.lola_value.specs.Answer.{Answer, Missing}
use Rattle.lola_value.specs.Naming.{Naming, AreHeld, read_outcome, read_params, the_values}
use Rattle.lola_value.specs.Ratio.{Ratio}
use Rattle.lola_value.specs.declared.value.FaultKind.{FaultKind}
use Rattle.lola_value.specs.declared.value.Outcome.{Outcome}
use Rattle.lola_model.specs.Content.{Content}
use Rattle.lola_model.specs.Dues.{due_from, due_places, is_due, locals_of}
use Rattle.lola_model.specs.Faults.{add_faulted}
use Rattle.lola_model.specs.NextStep.{is_local}
use Rattle.lola_model.specs.Store.{Memories, Seen, SeenInstance, instances_seen, layout_of, spawns_in}
use Rattle.lola_model.specs.declared.pacing.Pacing.{Pacing}
use Rattle.lola_model.specs.declared.pacing.Pacing.TheVariants.{Event, Local, Periodic}
use Rattle.lola_model.specs.declared.plan.Plan.{Plan}
use Rattle.lola_model.specs.declared.spec.Clause.{Clause}
use Rattle.lola_expr.specs.Evaluation.{Sees}
use Rattle.lola_step_contents.specs.Ends.{Place, add_place}
use Rattle.lola_step.specs.Clauses.{IsAnswer, closing_answer}
use Rattle.lola_step.specs.Closings.{AreUpTo, FindsAmong, IsShown, closed_by, condition_of, least_condition, places_true}
use Rattle.lola_step.specs.Found.{least_of}
use Rattle.lola_step.specs.Found as found
use Rattle.lola_step.specs.Moments.{IsListedIn, active_for_in, birth_at, born_seen}
use Rattle.lola_step.specs.Notes.{place_of_task, places_of}
use Rattle.lola_step.specs.Tasks.{params_at, params_seen}
use Rattle.lola_step.specs.declared.moment.Moment.{Moment}
use Rattle.lola_step.specs.declared.tasks.Task.{Task}
use Rattle.lola_step.proofs.Closable.{up_to_later, up_to_noted, up_to_stream}
use Rattle.lola_step.proofs.Conditions.{place_listed}
use Rattle.lola_step.proofs.Elements.{AreFrom, Element, cut, drop_past, element, from_first, from_here, from_later}
use Rattle.lola_step.proofs.Faulty.{least_of_none, outcome_moves, same_kind}
use Rattle.lola_step.proofs.Standing.{params_held}
use Rattle.lola_step.proofs.Undue.{undue_is_inactive}

-- the places that are listed

module _ (rates : List Ratio) (time : ℕ) where
  -- no more than there are instances
  few_more : (b : Bool) (i k : ℕ) (js : List ℕ) → length js ≤ k → length (if b then i ∷ js else js) ≤ suc k
  few_more true i k js h = omega arith
  few_more false i k js h = omega arith

  pub few_due : (i : ℕ) (xs : List SeenInstance) → length (due_from rates time i xs) ≤ length xs
  few_due i [] = omega arith
  few_due i (x ∷ xs) = few_more (is_due rates x.born time) i (length xs) (due_from rates time (i + 1) xs) (few_due (i + 1) xs)

-- places from one on and below another, each behind the one before
abbrev pub Ascend : ℕ → ℕ → List ℕ → Type 0
Ascend i k [] = Unit {0}
Ascend i k (j ∷ js) = (i ≤ j) × (j < k) × Ascend (j + 1) k js

ascend_later : (i j k : ℕ) (js : List ℕ) → i ≤ j → Ascend j k js → Ascend i k js
ascend_later i j k [] le h = tt
ascend_later i j k (q ∷ js) le h = (omega (arith, h.0), h.1, h.2)

ascend_more : (b : Bool) (i k : ℕ) (js : List ℕ) → i < k → Ascend (i + 1) k js → Ascend i k (if b then i ∷ js else js)
ascend_more true i k js lt h = (omega arith, lt, h)
ascend_more false i k js lt h = ascend_later i (i + 1) k js (omega arith) h

due_ascends : (rates : List Ratio) (time i k : ℕ) (xs : List SeenInstance) → i + length xs ≤ k → Ascend i k (due_from rates time i xs)
due_ascends rates time i k [] le = tt
due_ascends rates time i k (x ∷ xs) le =
    ascend_more (is_due rates x.born time) i k (due_from rates time (i + 1) xs) (omega arith) (due_ascends rates time (i + 1) k xs (omega arith))

-- a place is below the bound, and before the next
below_bound : (i k : ℕ) (js : List ℕ) → Ascend i k js → (a j : ℕ) → slice_get js a ≡ Some j → j < k
below_bound i k [] h a j at = absurd (cc)
below_bound i k (q ∷ js) h zero j at = let e : q ≡ j = cc in omega (arith, h.1)
below_bound i k (q ∷ js) h (suc a) j at = below_bound (q + 1) k js h.2 a j at

first_from : (i k : ℕ) (js : List ℕ) → Ascend i k js → (j : ℕ) → slice_get js 0 ≡ Some j → i ≤ j
first_from i k [] h j at = absurd (cc)
first_from i k (q ∷ js) h j at = let e : q ≡ j = cc in omega (arith, h.0)

before_next : (i k : ℕ) (js : List ℕ) → Ascend i k js → (a j q : ℕ) → slice_get js a ≡ Some j → slice_get js (suc a) ≡ Some q → j + 1 ≤ q
before_next i k [] h a j q at next = absurd (cc)
before_next i k (r ∷ js) h zero j q at next = let e : r ≡ j = cc in let le : r + 1 ≤ q = first_from (r + 1) k js h.2 q next in omega (arith, le, e)
before_next i k (r ∷ js) h (suc a) j q at next = before_next (r + 1) k js h.2 a j q at next

module _ (s : Seen) (n time : ℕ) where
  abbrev places : List ℕ
  places = due_places s n time

  ascending : Ascend 0 (length (instances_seen s n)) places
  ascending = due_ascends _ time 0 _ (instances_seen s n) (omega arith)

  pub few_places : length places ≤ length (instances_seen s n)
  few_places = few_due _ time 0 (instances_seen s n)

  pub due_lives : (a j : ℕ) → slice_get places a ≡ Some j → j < length (instances_seen s n)
  due_lives = below_bound 0 _ places ascending

  -- what is listed is before the place that comes next, and before the next stream
  pub record IsUpToDue (a : ℕ) (ts : List Task) : Type 0 where
    pub next : (j : ℕ) → slice_get places a ≡ Some j → AreUpTo s (record { stream = n; index = j }) ts
    pub end : AreUpTo s (record { stream = n + 1; index = 0 }) ts

  -- nothing of the stream yet
  pub up_to_due_first : (ts : List Task) → AreUpTo s (record { stream = n; index = 0 }) ts → IsUpToDue 0 ts
  up_to_due_first ts h = record { next = λ j at. up_to_later s n 0 j ts (omega arith) h; end = up_to_stream s n 0 ts h }

  -- the next one
  pub up_to_due_next : (a j : ℕ) → slice_get places a ≡ Some j → (o : Outcome) (ts us : List Task) → us ≡ ts ++ closed_by o (record { stream = n; index = j })
      → IsTrue (spawns_in (slice_get s.layout.streams n)) → IsUpToDue a ts → IsUpToDue (a + 1) us
  up_to_due_next a j at o ts us e spawns h =
      let after : AreUpTo s (record { stream = n; index = j + 1 }) us = up_to_noted s n j ts (h.next j at) o us e spawns (due_lives a j at) in
      record {
        next = λ q there. up_to_later s n (j + 1) q us (before_next 0 _ places ascending a j q at (subst (λ k. slice_get places k ≡ Some q) (add-one a) there)) after;
        end = up_to_stream s n (j + 1) us after;
      }

-- their conditions

-- a local clause is active for no instance without a deadline
inactive : (m : Moment) (born : ℕ) (p : Option Pacing) (rates : List Ratio) → is_local p ≡ true → IsListedIn p rates → is_due rates born m.time ≡ false → active_for_in m born p ≡ false
inactive m born None rates local listed e = absurd (cc)
inactive m born (Some (Event sets)) rates local listed e = absurd (cc)
inactive m born (Some (Periodic r)) rates local listed e = absurd (cc)
inactive m born (Some (Local r)) rates local listed e = undue_is_inactive m born r rates listed e

module _ (plan : Plan) (m : Moment) (p : Option Pacing) (remembers : Memories) (s : Seen) (k : Option Clause) (n : ℕ) where
  module _ (names : Naming) (c : Content) where
    -- of the instance at a place
    abbrev condition_at : ℕ → Answer
    condition_at j = closing_answer plan.spec (active_for_in m (born_seen s n j) p) k c (read_params names (params_seen s n j))

    -- the least kind of a fault among those at places
    abbrev least_at : List ℕ → Option FaultKind
    least_at [] = None
    least_at (j ∷ js) = add_faulted (condition_at j) (least_at js)

    -- the places at which they are true
    abbrev places_at : List ℕ → List Place
    places_at [] = []
    places_at (j ∷ js) = add_place (condition_at j) n j (places_at js)

    -- those at some places are those of some instances
    abbrev AreSame : List ℕ → ℕ → List SeenInstance → Type 0
    AreSame js i xs = (least_at js ≡ least_condition plan names c m p k xs) × (places_at js ≡ places_true plan names c m p k n i xs)

    module _ (rates : List Ratio) (local : is_local p ≡ true) (listed : IsListedIn p rates) where
      one_more : (b : Bool) (i : ℕ) (x : SeenInstance) (xs : List SeenInstance) (js : List ℕ) → is_due rates x.born m.time ≡ b → slice_get (instances_seen s n) i ≡ Some x
          → AreSame js (i + 1) xs → AreSame (if b then i ∷ js else js) i (x ∷ xs)
      one_more true i x xs js due at h =
          let here : condition_at i ≡ condition_of plan names c m p k x =
          ap (λ (o : Option SeenInstance). closing_answer plan.spec (active_for_in m (birth_at o) p) k c (read_params names (params_at o))) at in (
            ap (λ a. add_faulted a (least_at js)) here ∙ ap (add_faulted (condition_of plan names c m p k x)) h.0,
            ap (λ a. add_place a n i (places_at js)) here ∙ ap (add_place (condition_of plan names c m p k x) n i) h.1,
          )
      one_more false i x xs js due at h =
          let none : condition_of plan names c m p k x ≡ Missing =
          ap (λ b. closing_answer plan.spec b k c (read_params names x.params)) (inactive m x.born p rates local listed due) in (
            h.0 ∙ sym (ap (λ a. add_faulted a (least_condition plan names c m p k xs)) none),
            h.1 ∙ sym (ap (λ a. add_place a n i (places_true plan names c m p k n (i + 1) xs)) none),
          )

      due_are : (i : ℕ) (xs : List SeenInstance) → AreFrom (instances_seen s n) i xs → AreSame (due_from rates m.time i xs) i xs
      due_are i [] from = (refl, refl)
      due_are i (x ∷ xs) from =
          one_more (is_due rates x.born m.time) i x xs (due_from rates m.time (i + 1) xs) refl (from_here (instances_seen s n) i x xs from)
          (due_are (i + 1) xs (from_later (instances_seen s n) i x xs from))

    module _ (js : List ℕ) (a j : ℕ) (at : slice_get js a ≡ Some j) (o : Outcome) (answer : read_outcome names o ≡ condition_at j) where
      -- the fault so far and those to come
      fault_noted : (least next : Option FaultKind) → next ≡ found.add_fault o least → least_of least (least_at (drop a js)) ≡ least_at js → least_of next (least_at (drop (a + 1) js)) ≡ least_at js
      fault_noted least next e so_far =
          let rest : Option FaultKind = least_at (drop (a + 1) js) in
          ap (λ f. least_of f rest) e
          ∙ (outcome_moves o least rest
          ∙ (ap (least_of least) (same_kind names o rest ∙ ap (λ r. add_faulted r rest) answer)
          ∙ (ap (λ ys. least_of least (least_at ys)) (sym (cut js a j at))
          ∙ so_far)))

      -- the places so far and those to come
      place_noted : (old new : List Task) (all : List Place) → new ≡ old ++ closed_by o (record { stream = n; index = j })
          → places_of old ++ places_at (drop a js) ≡ all → places_of new ++ places_at (drop (a + 1) js) ≡ all
      place_noted old new all e so_far =
          let t : Task = record { stream = n; index = j } in
          let rest : List Place = places_at (drop (a + 1) js) in
          ap (λ (ts : List Task). places_of ts ++ rest) e
          ∙ (ap (λ (ps : List Place). ps ++ rest) (map-append place_of_task old (closed_by o t))
          ∙ (append_assoc (places_of old) (places_of (closed_by o t)) rest
          ∙ (ap (λ (ps : List Place). places_of old ++ ps) (place_listed names o t rest ∙ ap (λ r. add_place r n j rest) answer)
          ∙ (ap (λ ys. places_of old ++ places_at ys) (sym (cut js a j at))
          ∙ so_far))))

  -- the conditions of the instances that are listed, up to a place among them
  abbrev pub FoundUpToDue : ℕ → Option FaultKind → List Task → List Task → Type 0
  FoundUpToDue a least old new =
      (names : Naming) (c : Content) → IsShown plan names c remembers s
      → (least_of least (least_at names c (drop a (due_places s n m.time))) ≡ least_at names c (due_places s n m.time))
      × (places_of new ++ places_at names c (drop a (due_places s n m.time)) ≡ places_of old ++ places_at names c (due_places s n m.time))

  -- the next one
  pub found_due_next : s.layout ≡ layout_of plan → (a j : ℕ) → slice_get (due_places s n m.time) a ≡ Some j → (o : Outcome) (least next : Option FaultKind) (old now new : List Task)
      → IsAnswer plan remembers s (params_seen s n j) (closing_answer plan.spec (active_for_in m (born_seen s n j) p) k) o
      → next ≡ found.add_fault o least → new ≡ now ++ closed_by o (record { stream = n; index = j })
      → FoundUpToDue a least old now → FoundUpToDue (a + 1) next old new
  found_due_next layout a j at o least next old now new answers e f so_far names c shown =
      let x : Element (instances_seen s n) j = element (instances_seen s n) j (due_lives s n m.time a j at) in
      let held : AreHeld names (the_values (params_seen s n j)) =
      subst (λ (t : Option SeenInstance). AreHeld names (the_values (params_at t))) (sym x.is) (params_held names remembers s c shown.stands n j x.at x.is) in
      let sees : Sees plan names c remembers s (params_seen s n j) = record { naming = shown.naming; layout = layout; held = held; stands = shown.stands } in
      let answer : read_outcome names o ≡ condition_at names c j = (answers names c sees shown.texts).0 in
      let before = so_far names c shown in (
        fault_noted names c (due_places s n m.time) a j at o answer least next e before.0,
        place_noted names c (due_places s n m.time) a j at o answer now new _ f before.1,
      )

  -- all of them: those that are not listed add nothing
  pub found_due : is_local p ≡ true → IsListedIn p (locals_of (slice_get s.layout.streams n)) → (a : ℕ) (least : Option FaultKind) (old new : List Task) → length (due_places s n m.time) ≤ a
      → FoundUpToDue a least old new → FindsAmong plan m p remembers s k n least old new
  found_due local listed a least old new past so_far names c shown =
      let none : drop a (due_places s n m.time) ≡ [] = drop_past (due_places s n m.time) a past in
      let h = so_far names c shown in
      let same : AreSame names c (due_places s n m.time) 0 (instances_seen s n) =
      due_are names c (locals_of (slice_get s.layout.streams n)) local listed 0 (instances_seen s n) (from_first (instances_seen s n)) in (
        sym (least_of_none least) ∙ (ap (λ ys. least_of least (least_at names c ys)) (sym none) ∙ (h.0 ∙ same.0)),
        sym (append-nil (places_of new)) ∙ (ap (λ ys. places_of new ++ places_at names c ys) (sym none) ∙ (h.1 ∙ ap (λ (ps : List Place). places_of old ++ ps) same.1)),
      )
