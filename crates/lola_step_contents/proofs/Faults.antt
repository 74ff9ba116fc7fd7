-- The fault of a row with its close clauses: that of its evaluation, or else of its close clauses, or none.
use Rattle.std.proofs.Common.{◌≡◌, refl, ap, ◌∙◌, ℕ, ◌+◌, List, [], ◌∷◌, Option, Some, None, Bool, true, false, ◌||◌}
use Rattle.lola_value.specs.Answer.{Answer, Given, Missing, Faulted, Poisoned}
use Rattle.lola_value.specs.declared.value.FaultKind.{FaultKind}
use Rattle.lola_model.specs.Content.{content}
use Rattle.lola_model.specs.Faults.{RowFault, own_fault, first_with, least_kind, lesser_kind, least_faulted, add_faulted}
use Rattle.lola_model.specs.Model.{has_faulted, spawn_has_faulted, some_faulted, has_evaluation_fault, has_close_fault, closes_from}
use Rattle.lola_model.specs.Table.{Spawned, Idle, Named, SpawnFaulted, SpawnPoisoned, Living, StreamRow, TableRow}
use Rattle.lola_model.specs.declared.plan.Plan.{Plan}
use Rattle.lola_model.specs.declared.spec.Stream.{Stream}
use Rattle.lola_step_contents.specs.Ends.{close_fault, first_close_fault}
use Rattle.lola_step_contents.proofs.Quiet.{AreQuiet}

some_kind : (k : FaultKind) (o : Option FaultKind) → lesser_kind k o ≡ None → ⊥
some_kind k None e = cc
some_kind k (Some j) e = cc

-- no instance has a fault where there is no least one
no_least : (ls : List Living) → least_faulted ls ≡ None → some_faulted ls ≡ false
no_least [] e = refl
no_least (l ∷ ls) e = with_outcome l.outcome (no_least ls) e
  where
    with_outcome : (a : Answer) → (least_faulted ls ≡ None → some_faulted ls ≡ false) → add_faulted a (least_faulted ls) ≡ None → (has_faulted a || some_faulted ls) ≡ false
    with_outcome (Faulted k) h e = absurd (some_kind k (least_faulted ls) e)
    with_outcome (Given v) h e = h e
    with_outcome Missing h e = h e
    with_outcome Poisoned h e = h e

-- the first of these kinds and of the streams behind
abbrev first_of_two : ℕ → Option FaultKind → Option RowFault → Option RowFault
first_of_two n o rest = elim o [ None ↦ rest | Some k ↦ Some (record { stream = n; kind = k }) ]

none_of_two : (n : ℕ) (o : Option FaultKind) (rest : Option RowFault) → first_of_two n o rest ≡ None → (o ≡ None) × (rest ≡ None)
none_of_two n None rest e = (refl, e)
none_of_two n (Some k) rest e = absurd (cc)

-- a stream without a fault of its own
none_own : (sp : Spawned) (ls : List Living)
    → (elim sp as (λ _. Option FaultKind) [ Idle ↦ least_faulted ls | Named p ↦ least_faulted ls | SpawnFaulted k ↦ Some k | SpawnPoisoned ↦ least_faulted ls ]) ≡ None
    → (spawn_has_faulted sp ≡ false) × (some_faulted ls ≡ false)
none_own Idle ls e = (refl, no_least ls e)
none_own (Named p) ls e = (refl, no_least ls e)
none_own (SpawnFaulted k) ls e = absurd (cc)
none_own SpawnPoisoned ls e = (refl, no_least ls e)

none_of_three : (a b c : Bool) → a ≡ false → b ≡ false → c ≡ false → (a || (b || c)) ≡ false
none_of_three false false c p q r = r
none_of_three true b c p q r = absurd (cc)
none_of_three false true c p q r = absurd (cc)

-- where no stream has a fault of its own, there is none of the evaluation
pub no_evaluation_fault : (n : ℕ) (ys : List StreamRow) → first_with own_fault n ys ≡ None → has_evaluation_fault ys ≡ false
no_evaluation_fault n [] e = refl
no_evaluation_fault n (y ∷ ys) e =
    let h : (own_fault y ≡ None) × (first_with own_fault (n + 1) ys ≡ None) = none_of_two n (own_fault y) (first_with own_fault (n + 1) ys) e in
    let own : (spawn_has_faulted y.spawned ≡ false) × (some_faulted y.living ≡ false) = none_own y.spawned y.living h.0 in
    none_of_three (spawn_has_faulted y.spawned) (some_faulted y.living) (has_evaluation_fault ys) own.0 own.1 (no_evaluation_fault (n + 1) ys h.1)

-- the fault of a stream's close conditions
abbrev pub of_closes : StreamRow → Option FaultKind
of_closes y = least_kind y.close_faults

-- where no stream has a fault of a close condition, the row has none
pub no_close_fault : (n : ℕ) (ys : List StreamRow) → first_with of_closes n ys ≡ None → has_close_fault ys ≡ false
no_close_fault n [] e = refl
no_close_fault n (y ∷ ys) e =
    let h : (of_closes y ≡ None) × (first_with of_closes (n + 1) ys ≡ None) = none_of_two n (of_closes y) (first_with of_closes (n + 1) ys) e in
    with_faults y.close_faults h.0 (no_close_fault (n + 1) ys h.1)
  where
    with_faults : (ks : List FaultKind) → least_kind ks ≡ None → has_close_fault ys ≡ false → (elim ks as (λ _. Bool) [ [] ↦ has_close_fault ys | k ∷ ks ↦ true ]) ≡ false
    with_faults [] e h = h
    with_faults (k ∷ ks) e h = absurd (some_kind k (least_kind ks) e)

module _ (plan : Plan) (start : ℕ) (rows : List TableRow) (row : TableRow) where
  -- close clauses change no fault of the evaluation
  pub evaluation_kept : (n m : ℕ) (ss : List Stream) (ys : List StreamRow) → first_with own_fault n (closes_from plan start rows row m ss ys) ≡ first_with own_fault n ys
  evaluation_kept n m [] ys = refl
  evaluation_kept n m (s ∷ ss) [] = refl
  evaluation_kept n m (s ∷ ss) (y ∷ ys) =
      ap (λ r. first_of_two n (own_fault y) r) (evaluation_kept (n + 1) (m + 1) ss ys)

  quiet_fault : (n : ℕ) (ys : List StreamRow) → AreQuiet ys → first_with of_closes n ys ≡ None
  quiet_fault n [] q = refl
  quiet_fault n (y ∷ ys) q = ap (λ ks. first_of_two n (least_kind ks) (first_with of_closes (n + 1) ys)) q.1 ∙ quiet_fault (n + 1) ys q.2

  -- the first fault of the close clauses of a row
  pub closing_fault_is : (n : ℕ) (ss : List Stream) (ys : List StreamRow) → AreQuiet ys
      → first_with of_closes n (closes_from plan start rows row n ss ys) ≡ first_close_fault plan start rows row.step (content start rows row) n ss ys
  closing_fault_is n [] ys q = quiet_fault n ys q
  closing_fault_is n (s ∷ ss) [] q = refl
  closing_fault_is n (s ∷ ss) (y ∷ ys) q =
      ap (λ r. first_of_two n (close_fault plan start rows row.step (content start rows row) n s y) r) (closing_fault_is (n + 1) ss ys q.2)
