-- The settled model of a run is a front of the whole model, and the whole one where it ends with a fault.
use Rattle.std.proofs.Common.{◌≡◌, refl, ap, ◌∙◌, sym, ℕ, zero, suc, ◌≤◌, List, [], ◌∷◌, ◌++◌, Option, Some, None, Bool, true, false, arith}
use Rattle.std.proofs.lemmas.Bool.{le-ltb}
use Rattle.std.specs.List.{slice_get}
use Rattle.lola_model.specs.Table.{Step, TableRow}
use Rattle.lola_model.specs.Journal.{accepted}
use Rattle.lola_model.specs.Model.{answered, has_fault, made, Next}
use Rattle.lola_model.specs.NextStep.{due, rows_taken, below_or, step_before, after_last, next_below, most_steps}
use Rattle.lola_model.specs.Runs.{run_start, settled_model, whole_model}
use Rattle.lola_model.specs.declared.journal.Row.{Row}
use Rattle.lola_model.specs.declared.journal.Entry.{Entry}
use Rattle.lola_model.specs.declared.plan.Plan.{Plan}
use Rattle.lola_model.proofs.Growing.{is_ended}

-- no deadline is below 0
none_below : (o : Option ℕ) (s : Step) → below_or o 0 None ≡ Some s → ⊥
none_below None s e = cc
none_below (Some t) s e = let q : below_or (Some t) 0 None ≡ None = rw (le-ltb t 0 (omega arith)) refl in let z = sym q ∙ e in cc

same_step : (r : Option Row) (limit : ℕ) (o : Option ℕ) (s : Step) → step_before r 0 o ≡ Some s → step_before r limit o ≡ Some s
same_step (Some r) limit o s e = e
same_step None limit o s e = absurd (none_below o s e)

more_steps : (limit from : ℕ) (rows : List Row) → most_steps 0 from rows ≤ most_steps limit from rows
more_steps limit from [] = omega arith
more_steps limit from (r ∷ rows) = let k = more_steps limit r.stamp rows in omega arith

module _ (plan : Plan) (start : ℕ) where
  -- a row, and what is made after it unless it has a fault
  abbrev onward : Next → ℕ → List TableRow → TableRow → Bool → List TableRow
  onward next most done row b = elim b [ true ↦ row ∷ [] | false ↦ row ∷ made plan start next most (done ++ row ∷ []) ]

  abbrev after : Next → ℕ → List TableRow → Option Step → List TableRow
  after next most done o = elim o [ None ↦ [] | Some step ↦ let row = answered plan start done step in elim (has_fault row) [ true ↦ row ∷ [] | false ↦ row ∷ made plan start next most (done ++ row ∷ []) ] ]

  -- what is made by one rule is a front of what is made by one that goes on where the first does
  abbrev IsFront : List TableRow → List TableRow → Type 0
  IsFront few all = (more : List TableRow) × (all ≡ few ++ more) × (is_ended few ≡ true → more ≡ [])

  module _ (first second : Next) (same : (done : List TableRow) (s : Step) → first done ≡ Some s → second done ≡ Some s) where
    by_fault : (m n : ℕ) (done : List TableRow) (row : TableRow) (b : Bool) → has_fault row ≡ b
        → IsFront (made plan start first m (done ++ row ∷ [])) (made plan start second n (done ++ row ∷ []))
        → IsFront (onward first m done row b) (onward second n done row b)
    by_fault m n done row true e h = ([], refl, λ z. refl)
    by_fault m n done row false e h = (h.0, ap (λ rs. row ∷ rs) h.1, λ z. h.2 (later_ended (made plan start first m (done ++ row ∷ [])) z))
      where
        later_ended : (rest : List TableRow) → is_ended (row ∷ rest) ≡ true → is_ended rest ≡ true
        later_ended [] z = let q = sym e ∙ z in absurd (cc)
        later_ended (r ∷ rest) z = z

    by_step : (m n : ℕ) (done : List TableRow) (o : Option Step) → first done ≡ o
        → ((row : TableRow) → IsFront (made plan start first m (done ++ row ∷ [])) (made plan start second n (done ++ row ∷ [])))
        → IsFront (made plan start first (suc m) done) (made plan start second (suc n) done)
    by_step m n done None e later =
        let none : made plan start first (suc m) done ≡ [] = ap (after first m done) e in
        (made plan start second (suc n) done, ap (λ rs. rs ++ made plan start second (suc n) done) (sym none), λ z. let q : is_ended (let xs : List TableRow = [] in xs) ≡ true = ap is_ended (sym none) ∙ z in absurd (cc))
    by_step m n done (Some s) e later =
        let row = answered plan start done s in
        let a : made plan start first (suc m) done ≡ onward first m done row (has_fault row) = ap (after first m done) e in
        let b : made plan start second (suc n) done ≡ onward second n done row (has_fault row) = ap (after second n done) (same done s e) in
        let h = by_fault m n done row (has_fault row) refl (later row) in
        (h.0, b ∙ (h.1 ∙ ap (λ rs. rs ++ h.0) (sym a)), λ z. h.2 (ap is_ended (sym a) ∙ z))

    pub made_front : (m n : ℕ) (done : List TableRow) → m ≤ n → IsFront (made plan start first m done) (made plan start second n done)
    made_front zero n done h = (made plan start second n done, refl, λ z. absurd (cc))
    made_front (suc m) zero done h = absurd (omega arith)
    made_front (suc m) (suc n) done h = by_step m n done (first done) refl (λ row. made_front m n (done ++ row ∷ []) (omega arith))

-- of a run
pub settled_is_front : (plan : Plan) (start : Option ℕ) (journal : List Entry)
    → (more : List TableRow) × (whole_model plan start journal ≡ settled_model plan start journal ++ more) × (is_ended (settled_model plan start journal) ≡ true → more ≡ [])
unfolding settled_model whole_model
settled_is_front plan start journal =
    let begin = run_start plan start journal in
    let rows = accepted journal in
    made_front plan begin (next_below plan begin rows 0) (next_below plan begin rows (after_last rows))
    (λ done s e. same_step (slice_get rows (rows_taken done)) (after_last rows) (due plan done begin) s e)
    (most_steps 0 0 rows) (most_steps (after_last rows) 0 rows) [] (more_steps (after_last rows) 0 rows)
