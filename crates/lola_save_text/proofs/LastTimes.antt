-- The last settled step of a run without a fault is that of the last accepted row.
use Rattle.std.proofs.Common.{◌≡◌, ℕ, List, [], ◌∷◌, ◌++◌, refl, sym, subst, ap, ◌∙◌, arith, Bool, true, false, Option, Some, None, append_assoc, append-nil}
use Rattle.std.specs.Prelude.{is_some, unwrap_or}
use Rattle.lola_model.specs.Acceptance.{IsAccepted}
use Rattle.lola_model.specs.Faults.{RunFault, fault_of_last}
use Rattle.lola_model.specs.Journal.{accepted, last_accepted}
use Rattle.lola_model.specs.Model.{GoesOn, has_fault, last_row}
use Rattle.lola_model.specs.NextStep.{below_or, due, next_settled, step_before}
use Rattle.lola_model.specs.Runs.{HasModelsOfRuns, content_after, run_start, settled_fault, settled_model, time_of_last}
use Rattle.lola_model.specs.Steps.{deadline_step, row_step}
use Rattle.lola_model.specs.Table.{Step, TableRow}
use Rattle.lola_model.specs.declared.journal.Entry.{Entry}
use Rattle.lola_model.specs.declared.journal.Row.{Row}
use Rattle.lola_model.specs.declared.plan.Plan.{Plan}
use Rattle.lola_model.proofs.Ends.{AreDue, AreNot, Comes, IsAt, at_deadlines, at_first, at_row, first_of, next_row, what_comes}
use Rattle.lola_model.proofs.Growing.{ended_by_fault, ends_with}
use Rattle.lola_model.proofs.Growth.{last_row-append}
use Rattle.lola_model.proofs.RunModels.{has_models_of_runs}

last-behind : (front : List Row) (r : Row) → last_accepted (front ++ r ∷ []) ≡ Some r.stamp
last-behind [] r = refl
last-behind (f ∷ []) r = refl
last-behind (f ∷ g ∷ front) r = last-behind (g ∷ front) r

module _ (plan : Plan) (start : ℕ) (journal : List Row) where
  -- the time of the last row of a table is that of the last accepted row
  abbrev IsInTime : List TableRow → Type 0
  IsInTime table = time_of_last start (last_row table) ≡ unwrap_or (last_accepted journal) start

  -- so it is once no row is left
  abbrev IsInTimeWith : List TableRow → List Row → Type 0
  IsInTimeWith table left = left ≡ [] → IsInTime table

  behind-row : (table : List TableRow) (front : List Row) (r : Row) (left : List Row) (row : TableRow) → IsAt journal table front (r ∷ left) → row.step ≡ row_step r
      → IsInTimeWith (table ++ row ∷ []) left
  behind-row table front r left row at e none =
      let joined : journal ≡ front ++ r ∷ [] = at.joined ∙ ap (λ (rs : List Row). front ++ r ∷ rs) none in
      ap (time_of_last start) (last_row-append table row)
      ∙ (ap (λ (s : Step). s.time) e
      ∙ sym (ap (λ (rs : List Row). unwrap_or (last_accepted rs) start) joined ∙ ap (λ (o : Option ℕ). unwrap_or o start) (last-behind front r)))

  -- where a row is left, a step comes
  left-over : (r : Row) (o : Option ℕ) → step_before (Some r) 0 o ≡ None → ⊥
  left-over r o e = by (what_comes o r.stamp (Some (row_step r)))
    where
      by : Comes o r.stamp (Some (row_step r)) (below_or o r.stamp (Some (row_step r))) → ⊥
      by (AreDue t d lt q) = let z = sym q ∙ e in cc
      by (AreNot q over) = let z = sym q ∙ e in cc

  -- and where none is left, none comes
  all-taken : (o : Option ℕ) (s : Step) → step_before None 0 o ≡ Some s → ⊥
  all-taken o s e = by (what_comes o 0 None)
    where
      by : Comes o 0 None (below_or o 0 None) → ⊥
      by (AreDue t d lt q) = omega arith
      by (AreNot q over) = let z = sym q ∙ e in cc

  comes : (table : List TableRow) (front left : List Row) → IsAt journal table front left → next_settled plan start journal table ≡ step_before (first_of left) 0 (due plan table start)
  comes table front left at = ap (λ (o : Option Row). step_before o 0 (due plan table start)) (next_row journal table front left at)

  -- a row whose fault is the last is none
  no-fault : (table : List TableRow) (row : TableRow) → fault_of_last (last_row (table ++ row ∷ [])) ≡ None → has_fault row ≡ true → ⊥
  no-fault table row fine e =
      let ended : is_some (fault_of_last (last_row (table ++ row ∷ []))) ≡ has_fault row = ended_by_fault (table ++ row ∷ []) ∙ ap ends_with (last_row-append table row) in
      let none : is_some (fault_of_last (last_row (table ++ row ∷ []))) ≡ false = ap (λ (f : Option RunFault). is_some f) fine in
      let z : true ≡ false = sym e ∙ (sym ended ∙ none) in
      cc

  -- behind one more row of the table
  abbrev StepsOn : List TableRow → TableRow → Type 0
  StepsOn table row = (front : List Row) × (left : List Row) × IsAt journal (table ++ row ∷ []) front left × IsInTimeWith (table ++ row ∷ []) left

  steps-on : (table : List TableRow) (front left : List Row) (row : TableRow) → IsAt journal table front left → next_settled plan start journal table ≡ Some row.step → StepsOn table row
  steps-on table front [] row at e = absurd (all-taken (due plan table start) row.step (sym (comes table front [] at) ∙ e))
  steps-on table front (r ∷ left) row at e = by (what_comes (due plan table start) r.stamp (Some (row_step r)))
    where
      here : below_or (due plan table start) r.stamp (Some (row_step r)) ≡ Some row.step
      here = sym (comes table front (r ∷ left) at) ∙ e

      by : Comes (due plan table start) r.stamp (Some (row_step r)) (below_or (due plan table start) r.stamp (Some (row_step r))) → StepsOn table row
      by (AreDue t d lt q) =
          let z = sym here ∙ q in
          let s : row.step ≡ deadline_step t = cc in
          (front, r ∷ left, at_deadlines journal table front (r ∷ left) row t at s, λ none. absurd (cc))
      by (AreNot q over) =
          let z = sym here ∙ q in
          let s : row.step ≡ row_step r = cc in
          (front ++ r ∷ [], left, at_row journal table front r left row at s, behind-row table front r left row at s)

  -- a table that solves the equations of the settled steps
  in-time : (table more : List TableRow) (front left : List Row) → IsAt journal table front left → IsInTimeWith table left → GoesOn plan start (next_settled plan start journal) table more
      → fault_of_last (last_row (table ++ more)) ≡ None → IsInTime (table ++ more)
  in-time table [] front [] at on goes fine = subst IsInTime (sym (append-nil table)) (on refl)
  in-time table [] front (r ∷ left) at on goes fine = absurd (left-over r (due plan table start) (sym (comes table front (r ∷ left) at) ∙ goes))
  in-time table (row ∷ more) front left at on goes fine =
      let next = steps-on table front left row at goes.0 in
      by (has_fault row) refl goes.2 (λ g.
      subst IsInTime (append_assoc table (row ∷ []) more)
      (in-time (table ++ row ∷ []) more next.0 next.1 next.2 next.3 g
      (subst (λ (t : List TableRow). fault_of_last (last_row t) ≡ None) (sym (append_assoc table (row ∷ []) more)) fine)))
    where
      by : (b : Bool) → has_fault row ≡ b → elim b as (λ _. Type 0) [ true ↦ more ≡ [] | false ↦ GoesOn plan start (next_settled plan start journal) (table ++ row ∷ []) more ]
          → (GoesOn plan start (next_settled plan start journal) (table ++ row ∷ []) more → IsInTime (table ++ row ∷ more)) → IsInTime (table ++ row ∷ more)
      by true e g then =
          absurd (no-fault table row (subst (λ (ts : List TableRow). fault_of_last (last_row (table ++ row ∷ ts)) ≡ None) g fine) e)
      by false e g then = then g

module _ (plan : Plan) (known : IsAccepted plan) (start : Option ℕ) (journal : List Entry) where
  solved : GoesOn plan (run_start plan start journal) (next_settled plan (run_start plan start journal) (accepted journal)) [] (settled_model plan start journal)
  solved = let models : HasModelsOfRuns plan = has_models_of_runs plan known.acyclic known.rates in (models.settled start journal (settled_model plan start journal)).1 refl

  first-in-time : (rows : List Row) → rows ≡ [] → run_start plan start journal ≡ unwrap_or (last_accepted rows) (run_start plan start journal)
  first-in-time [] e = refl
  first-in-time (r ∷ rows) e = absurd (cc)

  pub last-time : settled_fault plan start journal ≡ None
      → (content_after plan (run_start plan start journal) (settled_model plan start journal)).time ≡ unwrap_or (last_accepted (accepted journal)) (run_start plan start journal)
  unfolding settled_fault
  last-time fine =
      in-time plan (run_start plan start journal) (accepted journal) [] (settled_model plan start journal) [] (accepted journal) (at_first (accepted journal))
      (first-in-time (accepted journal)) solved fine
