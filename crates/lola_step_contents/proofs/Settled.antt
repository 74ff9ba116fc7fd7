-- Rows stay settled: what has no spawn clause is never born again, nor closed, and what is born is born in the row of the step.
use Rattle.std.proofs.Common.{◌≡◌, refl, ap, ◌∙◌, sym, subst, ℕ, zero, suc, ◌+◌, ◌≤◌, List, [], ◌∷◌, ◌++◌, Option, Some, None, Bool, true, false, slice_get, arith, length, length-append, if◌then◌else◌}
use Rattle.lola_value.specs.Answer.{Answer}
use Rattle.lola_model.specs.Acceptance.{IsAccepted}
use Rattle.lola_model.specs.Content.{Content, content}
use Rattle.lola_model.specs.Model.{answered, closing, closes_from, with_closes, asked_to_close, is_closing_for, is_closed, closed_among, close_faults_among, has_evaluation_fault, last_row, outcome_of, spawned_in, survivors, surviving, survivors_in, newborn, the_instance}
use Rattle.lola_model.specs.Table.{Step, Instance, Spawned, Idle, Living, StreamRow, TableRow}
use Rattle.lola_model.specs.declared.plan.Plan.{Plan}
use Rattle.lola_model.specs.declared.spec.Clause.{Clause}
use Rattle.lola_model.specs.declared.spec.Stream.{Stream}
use Rattle.lola_model.proofs.Growth.{AreBornBy, AreOrderly, last_row-append}
use Rattle.lola_model.proofs.Orderly.{AreOfRows, answered_orderly}
use Rattle.lola_model.proofs.Rounds.{row_of}
use Rattle.lola_step_contents.specs.Nexts.{StaySettled, inputs_before}
use Rattle.lola_step_contents.specs.Stages.{AreBornBefore, AreSettled}
use Rattle.lola_step_contents.proofs.Agree.{living_with, idle_without}
use Rattle.lola_step_contents.proofs.Fixed.{full, full_is, full_at, at_full}
use Rattle.lola_step_contents.proofs.Shapes.{passes_at, never_closes}

-- the one instance of a stream with an outcome
abbrev pub one_living : Answer → List Living
one_living a = record { instance = the_instance; outcome = a } ∷ []

module _ (plan : Plan) (accepted : IsAccepted plan) (start : ℕ) (rows : List TableRow) (step : Step) (n : ℕ) (s : Stream) (at : slice_get plan.spec.streams n ≡ Some s) (none : s.spawn ≡ None) where
  -- the spawn clause that a stream does not have does nothing
  pub full_is_idle : spawned_in (slice_get (full plan start rows step) n) ≡ Idle
  full_is_idle = ap spawned_in (at_full plan start rows step accepted.acyclic n s at) ∙ idle_without plan start rows step _ _ s.spawn _ none

  one_of : (o : Spawned → Instance → Answer) (sp : Spawned) (alive : List Instance) → sp ≡ Idle → alive ≡ the_instance ∷ []
      → living_with (λ x. o sp x) (alive ++ newborn sp alive (length rows)) ≡ one_living (o sp the_instance)
  one_of o sp alive e f = rw (e, f) refl

  -- and its one instance lives
  pub full_is_one : survivors n s (last_row rows) ≡ the_instance ∷ []
      → (full_at plan start rows step n s).living
      ≡ one_living (outcome_of plan start rows step (content start rows (row_of step (full plan start rows step))) n (inputs_before plan.spec.streams n) s (spawned_in (slice_get (full plan start rows step) n)) the_instance)
  full_is_one e =
      one_of (λ sp x. outcome_of plan start rows step (content start rows (row_of step (full plan start rows step))) n (inputs_before plan.spec.streams n) s sp x)
      (spawned_in (slice_get (full plan start rows step) n)) (survivors n s (last_row rows)) full_is_idle e

  no_close : s.close ≡ None
  no_close = never_closes s (passes_at _ plan.spec.streams n s accepted.named.shapes at) none

  closes_there : (row : TableRow) (j m k : ℕ) (ss : List Stream) (ys : List StreamRow) (y : StreamRow) → k ≡ j + m → slice_get ss m ≡ Some s → slice_get ys m ≡ Some y
      → slice_get (closes_from plan start rows row j ss ys) m ≡ Some (with_closes plan start rows row k s y)
  closes_there row j m k [] ys y e a b = absurd (cc)
  closes_there row j m k (r ∷ ss) [] y e a b = absurd (cc)
  closes_there row j zero k (r ∷ ss) (z ∷ ys) y e a b =
      let c : k ≡ j = omega arith in
      let d : r ≡ s = cc in
      let f : z ≡ y = cc in
      rw (c, ← d, ← f) refl
  closes_there row j (suc m) k (r ∷ ss) (z ∷ ys) y e a b = closes_there row (j + 1) m k ss ys y (omega arith) a b

  -- no instance is closed where the close clause is left out
  keeps_one : (c : Content) (y : StreamRow) (a : Answer) → y.living ≡ one_living a
      → survivors_in (Some (record y { closed = closed_among plan.spec c s.close (asked_to_close plan start rows step n y.living); close_faults = close_faults_among plan.spec c s.close (asked_to_close plan start rows step n y.living) })) ≡ the_instance ∷ []
  keeps_one c y a f = rw (f, no_close) (go (is_closing_for plan start rows step n the_instance))
    where
      go : (b : Bool) → surviving (closed_among plan.spec c None (if b then one_living a else [])) (one_living a) ≡ the_instance ∷ []
      go true = refl
      go false = refl

  keeps_quiet : (y : StreamRow) (a : Answer) → y.closed ≡ [] → y.living ≡ one_living a → survivors_in (Some y) ≡ the_instance ∷ []
  keeps_quiet y a e f = rw (f, e) refl

  stays : survivors n s (last_row rows) ≡ the_instance ∷ [] → survivors n s (last_row (rows ++ answered plan start rows step ∷ [])) ≡ the_instance ∷ []
  stays e =
      ap (survivors n s) (last_row-append rows (answered plan start rows step))
      ∙ (ap (λ (r : TableRow). survivors_in (slice_get (closing plan start rows r).streams n)) (full_is plan start rows step)
      ∙ by_fault (has_evaluation_fault (full plan start rows step)))
    where
      there : slice_get (full plan start rows step) n ≡ Some (full_at plan start rows step n s)
      there = at_full plan start rows step accepted.acyclic n s at

      by_fault : (b : Bool)
          → survivors_in (slice_get (if b then row_of step (full plan start rows step) else row_of step (closes_from plan start rows (row_of step (full plan start rows step)) 0 plan.spec.streams (full plan start rows step))).streams n)
          ≡ the_instance ∷ []
      by_fault true = ap survivors_in there ∙ keeps_quiet (full_at plan start rows step n s) _ refl (full_is_one e)
      by_fault false =
          ap survivors_in (closes_there (row_of step (full plan start rows step)) 0 n n plan.spec.streams (full plan start rows step) (full_at plan start rows step n s) (omega arith) at there)
          ∙ keeps_one (content start rows (row_of step (full plan start rows step))) (full_at plan start rows step n s) _ (full_is_one e)

-- what is left of instances that were born by a number
born_left : (m : ℕ) (closed : List Instance) (ls : List Living) → AreBornBy m ls → AreBornBefore (suc m) (surviving closed ls)
born_left m closed [] h = tt
born_left m closed (l ∷ ls) h = by (is_closed closed l.instance) (born_left m closed ls h.1)
  where
    by : (b : Bool) → AreBornBefore (suc m) (surviving closed ls) → AreBornBefore (suc m) (if b then surviving closed ls else l.instance ∷ surviving closed ls)
    by true rest = rest
    by false rest = ((let k : l.instance.born ≤ m = h.0 in omega arith), rest)

-- of the stream of a number
born_at : (m : ℕ) (ys : List StreamRow) (n : ℕ) → AreOrderly m ys → AreBornBefore (suc m) (survivors_in (slice_get ys n))
born_at m [] n h = tt
born_at m (y ∷ ys) zero h = born_left m y.closed y.living h.1
born_at m (y ∷ ys) (suc n) h = born_at m ys n h.2

-- after the next row
born_after : (plan : Plan) (start : ℕ) (rows : List TableRow) (step : Step) → AreOfRows rows → (n : ℕ) (s : Stream)
    → AreBornBefore (length (rows ++ answered plan start rows step ∷ [])) (survivors n s (last_row (rows ++ answered plan start rows step ∷ [])))
born_after plan start rows step h n s =
    let row = answered plan start rows step in
    let more : suc (length rows) ≡ length (rows ++ row ∷ []) = omega (arith, length-append rows (row ∷ [])) in
    subst (λ (o : Option TableRow). AreBornBefore (length (rows ++ row ∷ [])) (survivors n s o)) (sym (last_row-append rows row))
    (subst (λ (m : ℕ). AreBornBefore m (survivors_in (slice_get row.streams n))) more (born_at (length rows) row.streams n (answered_orderly plan start rows step h)))

-- before the first step
pub settled_at_none : (plan : Plan) → AreSettled plan []
settled_at_none plan = record {
  one = λ n s at none. ap (λ o. elim o as (λ _. List Instance) [ None ↦ the_instance ∷ [] | Some k ↦ [] ]) none;
  born = λ n s k has. subst (λ (o : Option Clause). AreBornBefore 0 (elim o as (λ _. List Instance) [ None ↦ the_instance ∷ [] | Some k ↦ [] ])) (sym has) tt;
}

-- the law, at this plan
pub stay_settled : (plan : Plan) → IsAccepted plan → StaySettled plan
stay_settled plan accepted start rows step of_rows h = record {
  one = λ n s at none. stays plan accepted start rows step n s at none (h.one n s at none);
  born = λ n s k has. born_after plan start rows step of_rows n s;
}
