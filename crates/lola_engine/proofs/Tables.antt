-- The model over more steps: it goes on, or it stops at a fault.
use Rattle.std.proofs.Common.{◌≡◌, refl, ap, sym, ◌∙◌, ℕ, List, [], ◌∷◌, ◌++◌, Option, Some, None, is_some, Bool, true, false, if◌then◌else◌, length, append_assoc, append-nil}
use Rattle.lola_model.specs.Faults.{RowFault, row_fault, at_time, fault_of_last}
use Rattle.lola_model.specs.Graph.{nodes_of}
use Rattle.lola_model.specs.Model.{answered, asked, closes_from, has_evaluation_fault, has_fault, last_row, model}
use Rattle.lola_model.specs.Table.{Step, TableRow}
use Rattle.lola_model.specs.Texts.{row_lines, stream_lines, table_lines}
use Rattle.lola_model.specs.declared.journal.Show.{Show}
use Rattle.lola_model.specs.declared.plan.Plan.{Plan}
use Rattle.lola_model.specs.declared.spec.Stream.{Stream}
use Rattle.lola_model.proofs.Growth.{last_row-append}
use Rattle.lola_model.proofs.Journals.{table_lines-append}
use Rattle.lola_step_contents.proofs.Quiet.{asked_at}
use Rattle.lola_model.proofs.Growing.{ended_by_fault, grown, is_ended, model_more, row_fault_some}

-- one more step, and those after it
pub one_by_one : {A : Type 0} (xs : List A) (x : A) (ys : List A) → xs ++ x ∷ ys ≡ (xs ++ x ∷ []) ++ ys
one_by_one xs x ys = sym (append_assoc xs (x ∷ []) ys)

-- a row that is made is one of its step
pub answered_step : (plan : Plan) (start : ℕ) (rows : List TableRow) (step : Step) → (answered plan start rows step).step ≡ step
answered_step plan start rows step = go (has_evaluation_fault row.streams)
  where
    row : TableRow
    row = asked plan start rows step (length (nodes_of plan.spec))

    go : (b : Bool) → (if b then row else record { step = row.step; streams = closes_from plan start rows row 0 plan.spec.streams row.streams }).step ≡ step
    go true = asked_at plan start rows step (length (nodes_of plan.spec))
    go false = asked_at plan start rows step (length (nodes_of plan.spec))

-- a table without a fault
pub fine_goes_on : (table : List TableRow) → fault_of_last (last_row table) ≡ None → is_ended table ≡ false
fine_goes_on table h = sym (ended_by_fault table) ∙ ap is_some h

none_of : (o : Option RowFault) → is_some o ≡ false → o ≡ None
none_of None h = refl
none_of (Some f) h = absurd (cc)

-- a row without a fault is none as the last
pub fine_row : (table : List TableRow) (row : TableRow) → has_fault row ≡ false → fault_of_last (last_row (table ++ row ∷ [])) ≡ None
fine_row table row h =
    ap fault_of_last (last_row-append table row) ∙ ap (at_time row.step.time) (none_of (row_fault row) (row_fault_some row ∙ h))

-- and one with a fault is
pub faulty_row : (table : List TableRow) (row : TableRow) (f : RowFault) → row_fault row ≡ Some f
    → fault_of_last (last_row (table ++ row ∷ [])) ≡ Some (record { stream = f.stream; kind = f.kind; time = row.step.time })
faulty_row table row f h = ap fault_of_last (last_row-append table row) ∙ ap (at_time row.step.time) h

-- a row with a fault has no line
pub faulty_lines : (show : Show) (streams : List Stream) (row : TableRow) (f : RowFault) → row_fault row ≡ Some f → row_lines show streams row ≡ []
faulty_lines show streams row f h =
    ap (λ b. if b then [] else stream_lines show row.step.time streams row.streams) (sym (row_fault_some row) ∙ ap is_some h)

-- a faulty row ends a table
pub faulty_ends : (table : List TableRow) (row : TableRow) (f : RowFault) → row_fault row ≡ Some f → is_ended (table ++ row ∷ []) ≡ true
faulty_ends table row f h = sym (ended_by_fault (table ++ row ∷ [])) ∙ ap is_some (faulty_row table row f h)

module _ (plan : Plan) (start : ℕ) where
  abbrev after : List Step → List TableRow
  after steps = model plan start steps

  -- one step more, where there was no fault
  pub one_row_more : (steps : List Step) (x : Step) → is_ended (after steps) ≡ false → after (steps ++ x ∷ []) ≡ after steps ++ answered plan start (after steps) x ∷ []
  one_row_more steps x h = model_more plan start steps x ∙ ap (λ b. grown b (after steps) (answered plan start (after steps) x)) h

  -- whatever steps come, the rows of those before them stay
  front_of : (b : Bool) (table : List TableRow) (row : TableRow) → (rest : List TableRow) × (grown b table row ≡ table ++ rest)
  front_of true table row = ([], sym (append-nil table))
  front_of false table row = (row ∷ [], refl)

  pub rows_stay : (steps more : List Step) → (rest : List TableRow) × (after (steps ++ more) ≡ after steps ++ rest)
  rows_stay steps [] = ([], ap after (append-nil steps) ∙ sym (append-nil (after steps)))
  rows_stay steps (x ∷ more) =
      let one = front_of (is_ended (after steps)) (after steps) (answered plan start (after steps) x) in
      let next = rows_stay (steps ++ x ∷ []) more in (
        one.0 ++ next.0,
        ap after (one_by_one steps x more)
            ∙ (next.1 ∙ (ap (λ (t : List TableRow). t ++ next.0) (model_more plan start steps x ∙ one.1) ∙ append_assoc (after steps) one.0 next.0)),
      )

  -- and after a fault none comes
  pub rows_end : (steps more : List Step) → is_ended (after steps) ≡ true → after (steps ++ more) ≡ after steps
  rows_end steps [] h = ap after (append-nil steps)
  rows_end steps (x ∷ more) h =
      let one : after (steps ++ x ∷ []) ≡ after steps = model_more plan start steps x ∙ ap (λ b. grown b (after steps) (answered plan start (after steps) x)) h in
      ap after (one_by_one steps x more) ∙ (rows_end (steps ++ x ∷ []) more (ap is_ended one ∙ h) ∙ one)

  -- so the lines of steps are a front of those of more steps
  pub lines_stay : (show : Show) (steps more : List Step)
      → (lines : List (List ℕ)) × (table_lines show plan.spec.streams (after (steps ++ more)) ≡ table_lines show plan.spec.streams (after steps) ++ lines)
  lines_stay show steps more =
      let w = rows_stay steps more in (
        table_lines show plan.spec.streams w.0,
        ap (table_lines show plan.spec.streams) w.1 ∙ table_lines-append show plan.spec.streams (after steps) w.0,
      )
