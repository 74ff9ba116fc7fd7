-- The close conditions of a stream where all but one of its instances have a false one.
use Rattle.std.proofs.Common.{◌≡◌, refl, ap, ◌∙◌, sym, subst, ℕ, zero, suc, ◌+◌, ◌<◌, List, [], ◌∷◌, ◌++◌, Option, Some, None, Bool, true, false, slice_get, length, arith, append-nil, nat_eq}
use Rattle.std.proofs.lemmas.Bool.{eqb-true}
use Rattle.std.proofs.lemmas.List.{map-append}
use Rattle.lola_value.specs.Answer.{Answer}
use Rattle.lola_value.specs.Naming.{Naming, read_outcome, read_params}
use Rattle.lola_value.specs.declared.value.FaultKind.{FaultKind}
use Rattle.lola_value.specs.declared.value.Outcome.{Outcome}
use Rattle.lola_model.specs.Content.{Content}
use Rattle.lola_model.specs.Denotation.{truth}
use Rattle.lola_model.specs.Faults.{add_faulted}
use Rattle.lola_model.specs.Model.{when_answer}
use Rattle.lola_model.specs.NextStep.{is_local}
use Rattle.lola_model.specs.Store.{Memories, Seen, SeenInstance, instances_seen, layout_of}
use Rattle.lola_model.specs.Whereabouts.{may_stand_at}
use Rattle.lola_model.specs.declared.pacing.Pacing.{Pacing}
use Rattle.lola_model.specs.declared.pacing.Pacing.TheVariants.{Event, Local, Periodic}
use Rattle.lola_model.specs.declared.plan.Plan.{Plan}
use Rattle.lola_model.specs.declared.spec.Clause.{Clause}
use Rattle.lola_model.specs.declared.store.Whereabouts.{Whereabouts}
use Rattle.lola_model.specs.declared.store.Whereabouts.TheVariants.{At}
use Rattle.lola_expr.specs.Evaluation.{Sees}
use Rattle.lola_step_contents.specs.Ends.{Place, add_place}
use Rattle.lola_step.specs.Clauses.{IsAnswer, closing_answer}
use Rattle.lola_step.specs.Closings.{FindsAmong, MayAskClosing, closed_by, condition_of, least_condition, places_true}
use Rattle.lola_step.specs.Found as found
use Rattle.lola_step.specs.Moments.{active_for_in, birth_at, born_seen, may_be_active_in}
use Rattle.lola_step.specs.Notes.{place_of_task, places_of}
use Rattle.lola_step.specs.Sought.{IsFalseElsewhere, MayAskWhen}
use Rattle.lola_step.specs.Tasks.{params_at, params_seen}
use Rattle.lola_step.specs.declared.moment.Moment.{Moment}
use Rattle.lola_step.specs.declared.tasks.Task.{Task}
use Rattle.lola_step.proofs.Conditions.{place_listed}
use Rattle.lola_step.proofs.Elements.{Element, element}
use Rattle.lola_step.proofs.Faulty.{same_kind}
use Rattle.lola_step.proofs.Standing.{params_held}

-- a clause that is active for all instances alike is so whenever one was born
pub active_alike : (m : Moment) (p : Option Pacing) (born : ℕ) → is_local p ≡ false → may_be_active_in m p ≡ true → active_for_in m born p ≡ true
active_alike m None born local may = may
active_alike m (Some (Event sets)) born local may = may
active_alike m (Some (Periodic r)) born local may = may
active_alike m (Some (Local r)) born local may = absurd (cc)

-- a close clause that is active may be asked for its condition
pub may_ask_when : (plan : Plan) (m : Moment) (p : Option Pacing) (s : Seen) (n : ℕ) (k : Clause) → is_local p ≡ false → may_be_active_in m p ≡ true → MayAskClosing plan m p s n k → MayAskWhen plan s n k
may_ask_when plan m p s n k local may asks = λ q kinds. (asks 0 (active_alike m p 0 local may) q kinds).when

-- a condition that is false is that of no fault and of no place
module _ (plan : Plan) (m : Moment) (p : Option Pacing) (k : Clause) (n : ℕ) (names : Naming) (c : Content) where
  abbrev condition : SeenInstance → Answer
  condition x = condition_of plan names c m p (Some k) x

  -- what adds nothing
  pub record IsIdle (a : Answer) : Type 0 where
    pub no_fault : (rest : Option FaultKind) → add_faulted a rest ≡ rest
    pub no_place : (i : ℕ) (rest : List Place) → add_place a n i rest ≡ rest

  idle_false : (x : SeenInstance) → when_answer plan.spec c (read_params names x.params) k.when ≡ truth false → IsIdle (condition x)
  idle_false x e = by (active_for_in m x.born p)
    where
      by : (b : Bool) → IsIdle (closing_answer plan.spec b (Some k) c (read_params names x.params))
      by true = subst IsIdle (sym e) (record { no_fault = λ rest. refl; no_place = λ i rest. refl })
      by false = record { no_fault = λ rest. refl; no_place = λ i rest. refl }

  abbrev AllIdle : List SeenInstance → Type 0
  AllIdle xs = (i : ℕ) (x : SeenInstance) → slice_get xs i ≡ Some x → IsIdle (condition x)

  none_faulted : (xs : List SeenInstance) → AllIdle xs → least_condition plan names c m p (Some k) xs ≡ None
  none_faulted [] h = refl
  none_faulted (x ∷ xs) h = (h zero x refl).no_fault (least_condition plan names c m p (Some k) xs) ∙ none_faulted xs (λ i y e. h (suc i) y e)

  none_true : (i : ℕ) (xs : List SeenInstance) → AllIdle xs → places_true plan names c m p (Some k) n i xs ≡ []
  none_true i [] h = refl
  none_true i (x ∷ xs) h = (h zero x refl).no_place i (places_true plan names c m p (Some k) n (i + 1) xs) ∙ none_true (i + 1) xs (λ j y e. h (suc j) y e)

  -- all but the one at a place
  abbrev OthersIdle : ℕ → List SeenInstance → Type 0
  OthersIdle d xs = (i : ℕ) (x : SeenInstance) → slice_get xs i ≡ Some x → (i ≡ d → ⊥) → IsIdle (condition x)

  later_idle : (d : ℕ) (x : SeenInstance) (xs : List SeenInstance) → OthersIdle (suc d) (x ∷ xs) → OthersIdle d xs
  later_idle d x xs h = λ i y e ne. h (suc i) y e (λ q. ne (omega (arith, q)))

  rest_idle : (x : SeenInstance) (xs : List SeenInstance) → OthersIdle 0 (x ∷ xs) → AllIdle xs
  rest_idle x xs h = λ i y e. h (suc i) y e (λ q. omega (arith, q))

  one_faulted : (d : ℕ) (x : SeenInstance) (xs : List SeenInstance) → slice_get xs d ≡ Some x → OthersIdle d xs → least_condition plan names c m p (Some k) xs ≡ add_faulted (condition x) None
  one_faulted d x [] e h = absurd (cc)
  one_faulted zero x (y ∷ xs) e h =
      let q : y ≡ x = cc in
      ap (add_faulted (condition y)) (none_faulted xs (rest_idle y xs h)) ∙ ap (λ z. add_faulted (condition z) None) q
  one_faulted (suc d) x (y ∷ xs) e h =
      (h zero y refl (λ q. omega (arith, q))).no_fault (least_condition plan names c m p (Some k) xs) ∙ one_faulted d x xs e (later_idle d y xs h)

  one_true : (d i j : ℕ) (x : SeenInstance) (xs : List SeenInstance) → slice_get xs d ≡ Some x → OthersIdle d xs → j ≡ i + d → places_true plan names c m p (Some k) n i xs ≡ add_place (condition x) n j []
  one_true d i j x [] e h f = absurd (cc)
  one_true zero i j x (y ∷ xs) e h f =
      let q : y ≡ x = cc in
      let at : i ≡ j = omega (arith, f) in
      ap (add_place (condition y) n i) (none_true (i + 1) xs (rest_idle y xs h)) ∙ (ap (λ z. add_place (condition z) n i []) q ∙ ap (λ g. add_place (condition x) n g []) at)
  one_true (suc d) i j x (y ∷ xs) e h f =
      (h zero y refl (λ q. omega (arith, q))).no_place i (places_true plan names c m p (Some k) n (i + 1) xs)
      ∙ one_true d (i + 1) j x xs e (later_idle d y xs h) (omega (arith, f))

module _ (plan : Plan) (m : Moment) (p : Option Pacing) (remembers : Memories) (s : Seen) (k : Clause) (n : ℕ) where
  -- where no instance stands at these whereabouts nothing is found
  pub found_none : (w : Whereabouts) → ((i : ℕ) → i < length (instances_seen s n) → may_stand_at w i ≡ false) → IsFalseElsewhere plan remembers s n k w → (ts : List Task)
      → FindsAmong plan m p remembers s (Some k) n None ts ts
  found_none w out alone ts names c shown =
      let idle = λ (i : ℕ) (x : SeenInstance) (e : slice_get (instances_seen s n) i ≡ Some x). idle_false plan m p k n names c x (alone names c shown i x e (out i (there (instances_seen s n) i x e))) in (
        sym (none_faulted plan m p k n names c (instances_seen s n) idle),
        sym (append-nil (places_of ts)) ∙ ap (λ (ps : List Place). places_of ts ++ ps) (sym (none_true plan m p k n names c 0 (instances_seen s n) idle)),
      )
    where
      there : (xs : List SeenInstance) (i : ℕ) (x : SeenInstance) → slice_get xs i ≡ Some x → i < length xs
      there [] i x e = absurd (cc)
      there (y ∷ xs) zero x e = omega arith
      there (y ∷ xs) (suc i) x e = omega (arith, there xs i x e)

  -- where one does, what its condition comes to
  pub found_one : s.layout ≡ layout_of plan → (j : ℕ) → j < length (instances_seen s n) → IsFalseElsewhere plan remembers s n k (At j) → (o : Outcome) (result : Option FaultKind) (old new : List Task)
      → IsAnswer plan remembers s (params_seen s n j) (closing_answer plan.spec (active_for_in m (born_seen s n j) p) (Some k)) o
      → result ≡ found.add_fault o None → new ≡ old ++ closed_by o (record { stream = n; index = j })
      → FindsAmong plan m p remembers s (Some k) n result old new
  found_one layout j lives alone o result old new answers e f names c shown =
      let x : Element (instances_seen s n) j = element (instances_seen s n) j lives in
      let sees : Sees plan names c remembers s x.at.params = record { naming = shown.naming; layout = layout; held = params_held names remembers s c shown.stands n j x.at x.is; stands = shown.stands } in
      let h = subst (λ (t : Option SeenInstance). IsAnswer plan remembers s (params_at t) (closing_answer plan.spec (active_for_in m (birth_at t) p) (Some k)) o) x.is answers in
      let answer : read_outcome names o ≡ condition_of plan names c m p (Some k) x.at = (h names c sees shown.texts).0 in
      let t : Task = record { stream = n; index = j } in
      let idle = λ (i : ℕ) (y : SeenInstance) (at : slice_get (instances_seen s n) i ≡ Some y) (ne : i ≡ j → ⊥). idle_false plan m p k n names c y (alone names c shown i y at (other j i ne)) in (
        e ∙ (same_kind names o None ∙ (ap (λ a. add_faulted a None) answer ∙ sym (one_faulted plan m p k n names c j x.at (instances_seen s n) x.is idle))),
        ap places_of f
            ∙ (map-append place_of_task old (closed_by o t)
            ∙ ap (λ (ps : List Place). places_of old ++ ps)
            (sym (append-nil (places_of (closed_by o t))) ∙ (place_listed names o t [] ∙ (ap (λ a. add_place a n j []) answer ∙ sym (one_true plan m p k n names c j 0 j x.at (instances_seen s n) x.is idle (omega arith)))))),
      )
    where
      other : (a b : ℕ) → (b ≡ a → ⊥) → nat_eq a b ≡ false
      other a b ne = by (nat_eq a b) refl
        where
          by : (t : Bool) → nat_eq a b ≡ t → nat_eq a b ≡ false
          by true q = absurd (ne (sym (eqb-true a b q)))
          by false q = q
