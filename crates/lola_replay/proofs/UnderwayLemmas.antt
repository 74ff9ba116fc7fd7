-- A table goes on row by row, and is the model where no step is left or a row has a fault.
use Rattle.std.proofs.Common.{◌≡◌, ◌∙◌, refl, sym, ap, ℕ, ◌+◌, List, [], ◌∷◌, ◌++◌, Option, Some, None, true, false, if◌then◌else◌, arith, is_some, length}
use Rattle.std.proofs.lemmas.Bool.{le-ltb}
use Rattle.std.proofs.lemmas.Option.{slice_get_past}
use Rattle.lola_model.proofs.Growing.{row_fault_some, slice_get_last}
use Rattle.lola_model.proofs.Growth.{last_row-append}
use Rattle.lola_model.specs.Faults.{RowFault, at_time, fault_of_last, row_fault}
use Rattle.lola_model.specs.Journal.{accepted}
use Rattle.lola_model.specs.Model.{IsRow, Next, has_fault, last_row}
use Rattle.lola_model.specs.NextStep.{after_last, below_or, due, next_below, rows_taken, step_before, taken_by}
use Rattle.lola_model.specs.Runs.{HasModelsOfRuns, IsSettledModel, IsWholeModel, first_fault, run_start, settled_fault, settled_model, whole_model}
use Rattle.lola_model.specs.Steps.{deadline_step, row_step}
use Rattle.lola_model.specs.Table.{TableRow}
use Rattle.lola_model.specs.declared.journal.Entry.{Entry}
use Rattle.lola_model.specs.declared.journal.Row.{Row}
use Rattle.lola_model.specs.declared.plan.Plan.{Plan}
use Rattle.lola_replay.specs.SoFar.{GoesFinely, IsSoFar}
use Rattle.lola_replay.proofs.SoFarLemmas.{carried, ended, ended-faulty, whole-goes-on}

-- faults

no-fault : (row : TableRow) → has_fault row ≡ false → row_fault row ≡ None
no-fault row fine = go (row_fault row) (row_fault_some row ∙ fine)
  where
    go : (o : Option RowFault) → is_some o ≡ false → o ≡ None
    go None e = refl
    go (Some f) e = absurd (cc e)

pub fine-row : (row : TableRow) → row_fault row ≡ None → has_fault row ≡ false
fine-row row none = sym (row_fault_some row) ∙ ap is_some none

pub faulty-row : (row : TableRow) (f : RowFault) → row_fault row ≡ Some f → has_fault row ≡ true
faulty-row row f some = sym (row_fault_some row) ∙ ap is_some some

module _ (plan : Plan) (start : ℕ) (next : Next) where
  -- the last of rows that go on finely has no fault
  fine-last : (before rows : List TableRow) → GoesFinely plan start next before rows → fault_of_last (last_row rows) ≡ None
  fine-last before [] goes = refl
  fine-last before (r ∷ []) goes = ap (at_time r.step.time) (no-fault r goes.2)
  fine-last before (r ∷ (q ∷ rs)) goes = fine-last (before ++ r ∷ []) (q ∷ rs) goes.3

-- how many rows are taken

pub taken-more : (table : List TableRow) (row : TableRow) → rows_taken (table ++ row ∷ []) ≡ rows_taken table + taken_by row.step
taken-more [] row = omega arith
taken-more (r ∷ rs) row = (let rest = taken-more rs row in omega (arith, rest))

module _ (plan : Plan) (start : ℕ) (rows : List Row) where
  -- no step is left behind the rows where the limit is 0
  pub none-left : (limit : ℕ) (table : List TableRow) → rows_taken table ≡ length rows → next_below plan start rows limit table ≡ below_or (due plan table start) limit None
  none-left limit table taken =
      ap (λ (o : Option Row). step_before o limit (due plan table start)) (slice_get_past rows (rows_taken table) (omega (arith, taken)))

  pub none-settled : (table : List TableRow) → rows_taken table ≡ length rows → next_below plan start rows 0 table ≡ None
  none-settled table taken = none-left 0 table taken ∙ go (due plan table start)
    where
      go : (d : Option ℕ) → below_or d 0 None ≡ None
      go None = refl
      go (Some t) = ap (λ b. if b then Some (deadline_step t) else None) (le-ltb t 0 (omega arith))

  -- before one more row come the deadlines below its stamp
  pub next-to : (row : Row) (table : List TableRow) → rows_taken table ≡ length rows
      → next_below plan start (rows ++ row ∷ []) 0 table ≡ below_or (due plan table start) row.stamp (Some (row_step row))
  next-to row table taken = ap (λ (o : Option Row). step_before o 0 (due plan table start)) (slice_get_last rows row (rows_taken table) taken)

module _ (plan : Plan) (has : HasModelsOfRuns plan) (start : Option ℕ) (journal : List Entry) where
  abbrev begin : ℕ
  begin = run_start plan start journal

  settled-fault-of : (table : List TableRow) → IsSettledModel plan start journal table → settled_fault plan start journal ≡ fault_of_last (last_row table)
  unfolding settled_fault
  settled-fault-of table model = ap (λ (rs : List TableRow). fault_of_last (last_row rs)) (sym ((has.settled start journal table).0 model))

  whole-fault-of : (table : List TableRow) → IsWholeModel plan start journal table → first_fault plan start journal ≡ fault_of_last (last_row table)
  unfolding first_fault
  whole-fault-of table model = ap (λ (rs : List TableRow). fault_of_last (last_row rs)) (sym ((has.whole start journal table).0 model))

  abbrev settled_next : Next
  settled_next = next_below plan begin (accepted journal) 0

  abbrev whole_next : Next
  whole_next = next_below plan begin (accepted journal) (after_last (accepted journal))

  -- a table up to the last row is the settled model, which has no fault
  pub settled-by : (table : List TableRow) → IsSoFar plan begin settled_next table → rows_taken table ≡ length (accepted journal)
      → (table ≡ settled_model plan start journal) × (settled_fault plan start journal ≡ None)
  settled-by table so_far taken =
      let model : IsSettledModel plan start journal table = ended plan begin settled_next [] table so_far (none-settled plan begin (accepted journal) table taken) in
      ((has.settled start journal table).0 model, settled-fault-of table model ∙ fine-last plan begin settled_next [] table so_far)

  -- and where no deadline is left below the moment after the last row, the whole model
  pub whole-by : (table : List TableRow) → IsSoFar plan begin whole_next table → rows_taken table ≡ length (accepted journal)
      → below_or (due plan table begin) (after_last (accepted journal)) None ≡ None → (table ≡ whole_model plan start journal) × (first_fault plan start journal ≡ None)
  whole-by table so_far taken none =
      let model : IsWholeModel plan start journal table = ended plan begin whole_next [] table so_far (none-left plan begin (accepted journal) (after_last (accepted journal)) table taken ∙ none) in
      ((has.whole start journal table).0 model, whole-fault-of table model ∙ fine-last plan begin whole_next [] table so_far)

  module _ (table : List TableRow) (made : TableRow) (lawful : IsRow plan begin table made.step made) (f : RowFault) (fault : row_fault made ≡ Some f) where
    fault-told : fault_of_last (last_row (table ++ made ∷ [])) ≡ Some (record { stream = f.stream; kind = f.kind; time = made.step.time })
    fault-told = ap fault_of_last (last_row-append table made) ∙ ap (at_time made.step.time) fault

    -- with one more row, which has a fault, it is the settled model
    pub stopped-settled : IsSoFar plan begin settled_next table → settled_next table ≡ Some made.step
        → settled_fault plan start journal ≡ Some (record { stream = f.stream; kind = f.kind; time = made.step.time })
    stopped-settled so_far comes =
        let model : IsSettledModel plan start journal (table ++ made ∷ []) =
        ended-faulty plan begin settled_next [] table made so_far (record { step = comes; lawful = lawful }) (faulty-row made f fault) in
        settled-fault-of (table ++ made ∷ []) model ∙ fault-told

    -- and the whole model
    pub stopped-whole : IsSoFar plan begin whole_next table → whole_next table ≡ Some made.step
        → (table ++ made ∷ [] ≡ whole_model plan start journal) × (first_fault plan start journal ≡ Some (record { stream = f.stream; kind = f.kind; time = made.step.time }))
    stopped-whole so_far comes =
        let model : IsWholeModel plan start journal (table ++ made ∷ []) =
        ended-faulty plan begin whole_next [] table made so_far (record { step = comes; lawful = lawful }) (faulty-row made f fault) in
        ((has.whole start journal (table ++ made ∷ [])).0 model, whole-fault-of (table ++ made ∷ []) model ∙ fault-told)

    -- what is settled goes on so
    pub settled-whole : IsSoFar plan begin settled_next table → settled_next table ≡ Some made.step
        → (table ++ made ∷ [] ≡ whole_model plan start journal) × (first_fault plan start journal ≡ Some (record { stream = f.stream; kind = f.kind; time = made.step.time }))
    settled-whole so_far comes =
        let on = whole-goes-on plan begin (after_last (accepted journal)) (accepted journal) in
        stopped-whole (carried plan begin settled_next whole_next on [] table so_far) (on table made.step comes)
