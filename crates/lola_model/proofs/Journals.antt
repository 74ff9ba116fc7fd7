-- Journals, traces and texts part by part: what each comes to where one goes on after another.
use Rattle.std.proofs.Common.{◌≡◌, ◌<◌, ◌≤◌, subst, refl, ap, sym, ◌∙◌, ℕ, List, [], ◌∷◌, ◌++◌, append_assoc, append-nil, Option, cond, Bool, true, false, nat_eq}
use Rattle.lola_model.specs.Journal.{time_after, IsRightlyMarked, IsLegalFrom, merged_from, add_accepted, accepted, rows_of}
use Rattle.lola_model.specs.Table.{TableRow}
use Rattle.lola_model.specs.Runs.{run_start, settled_model, whole_model, settled_lines, final_lines, settled_fault, first_fault}
use Rattle.lola_model.specs.Model.{made, last_row}
use Rattle.lola_model.specs.Faults.{fault_of_last}
use Rattle.lola_model.specs.Steps.{start_of}
use Rattle.lola_model.specs.NextStep.{next_step, next_settled, most_steps, after_last}
use Rattle.lola_model.specs.Texts.{row_lines, table_lines, text_of}
use Rattle.lola_model.specs.Trace.{trace_line, trace_text}
use Rattle.lola_model.specs.declared.journal.Row.{Row}
use Rattle.lola_model.specs.declared.journal.Entry.{Entry}
use Rattle.lola_model.specs.declared.journal.Mark.{Mark}
use Rattle.lola_model.specs.declared.journal.Mark.TheVariants as mark
use Rattle.lola_model.specs.declared.journal.Show.{Show}
use Rattle.lola_model.specs.declared.plan.Plan.{Plan}
use Rattle.lola_model.specs.declared.spec.Stream.{Stream}

-- an accepted entry, and a late one

-- the row of an accepted entry is accepted
pub accepted_is_row : (e : Entry) (rows : List Row) → e.mark ≡ mark.Accepted → add_accepted e rows ≡ e.row ∷ rows
accepted_is_row e rows h = ap (λ m. elim m [ mark.Accepted ↦ e.row ∷ rows | mark.Late t ↦ rows ]) h

-- that of a late one is not
pub late_is_none : (e : Entry) (rows : List Row) (t : ℕ) → e.mark ≡ mark.Late t → add_accepted e rows ≡ rows
late_is_none e rows t h = ap (λ m. elim m [ mark.Accepted ↦ e.row ∷ rows | mark.Late s ↦ rows ]) h

-- an accepted stamp is the merged time
pub time_after-accepted : (merged : ℕ) (e : Entry) → e.mark ≡ mark.Accepted → time_after merged e ≡ e.row.stamp
time_after-accepted merged e h = ap (λ m. elim m [ mark.Accepted ↦ e.row.stamp | mark.Late t ↦ merged ]) h

-- a late one leaves it
pub time_after-late : (merged : ℕ) (e : Entry) (t : ℕ) → e.mark ≡ mark.Late t → time_after merged e ≡ merged
time_after-late merged e t h = ap (λ m. elim m [ mark.Accepted ↦ e.row.stamp | mark.Late s ↦ merged ]) h

-- what a right mark says, by the mark
abbrev RightAs : ℕ → Entry → Mark → Type 0
RightAs merged e mark.Accepted = merged ≤ e.row.stamp
RightAs merged e (mark.Late t) = (t ≡ merged) × (e.row.stamp < merged)

-- the same, without a definition
abbrev RightBy : ℕ → Entry → Mark → Type 0
RightBy merged e k = elim k as (λ _. Type 0) [ mark.Accepted ↦ merged ≤ e.row.stamp | mark.Late m ↦ (m ≡ merged) × (e.row.stamp < merged) ]

-- from the one to the other
as_right : (merged : ℕ) (e : Entry) (k : Mark) → RightBy merged e k → RightAs merged e k
as_right merged e mark.Accepted h = h
as_right merged e (mark.Late t) h = h

-- and back
by_right : (merged : ℕ) (e : Entry) (k : Mark) → RightAs merged e k → RightBy merged e k
by_right merged e mark.Accepted h = h
by_right merged e (mark.Late t) h = h

-- an accepted stamp is not below the merged time
pub rightly_accepted : (merged : ℕ) (e : Entry) → e.mark ≡ mark.Accepted → IsRightlyMarked merged e → merged ≤ e.row.stamp
rightly_accepted merged e q h = subst (RightAs merged e) q (as_right merged e e.mark h)

-- a late one is, and has that time in its mark
pub rightly_late : (merged : ℕ) (e : Entry) (t : ℕ) → e.mark ≡ mark.Late t → IsRightlyMarked merged e → (t ≡ merged) × (e.row.stamp < merged)
rightly_late merged e t q h = subst (RightAs merged e) q (as_right merged e e.mark h)

-- and back, of an accepted entry
pub IsRightlyMarked-accepted : (merged : ℕ) (e : Entry) → e.mark ≡ mark.Accepted → merged ≤ e.row.stamp → IsRightlyMarked merged e
IsRightlyMarked-accepted merged e q h = by_right merged e e.mark (subst (RightAs merged e) (sym q) h)

-- of a late one
pub IsRightlyMarked-late : (merged : ℕ) (e : Entry) → e.mark ≡ mark.Late merged → e.row.stamp < merged → IsRightlyMarked merged e
IsRightlyMarked-late merged e q h = by_right merged e e.mark (subst (RightAs merged e) (sym q) (refl, h))

-- the accepted rows of one journal after another

-- of one entry
add_accepted-append : (e : Entry) (xs ys : List Row) → add_accepted e (xs ++ ys) ≡ add_accepted e xs ++ ys
add_accepted-append e xs ys =
    elim e.mark as (λ m. elim m as (λ _. List Row) [ mark.Accepted ↦ e.row ∷ (xs ++ ys) | mark.Late t ↦ xs ++ ys ] ≡ elim m as (λ _. List Row) [ mark.Accepted ↦ e.row ∷ xs | mark.Late t ↦ xs ] ++ ys) [
      | mark.Accepted ↦ refl
      | mark.Late t ↦ refl
    ]

-- of two journals
pub accepted-append : (es fs : List Entry) → accepted (es ++ fs) ≡ accepted es ++ accepted fs
accepted-append [] fs = refl
accepted-append (e ∷ es) fs = ap (add_accepted e) (accepted-append es fs) ∙ add_accepted-append e (accepted es) (accepted fs)

-- one more accepted entry, and one more late one
pub accepted-append_accepted : (es : List Entry) (e : Entry) → e.mark ≡ mark.Accepted → accepted (es ++ e ∷ []) ≡ accepted es ++ e.row ∷ []
accepted-append_accepted es e h = accepted-append es (e ∷ []) ∙ ap (λ rows. accepted es ++ rows) (accepted_is_row e [] h)

-- a late entry adds none
pub accepted-append_late : (es : List Entry) (e : Entry) (t : ℕ) → e.mark ≡ mark.Late t → accepted (es ++ e ∷ []) ≡ accepted es
accepted-append_late es e t h =
    accepted-append es (e ∷ []) ∙ (ap (λ rows. accepted es ++ rows) (late_is_none e [] t h) ∙ append-nil (accepted es))

-- the merged time after one journal and another

-- of two journals
pub merged_from-append : (merged : ℕ) (es fs : List Entry) → merged_from merged (es ++ fs) ≡ merged_from (merged_from merged es) fs
merged_from-append merged [] fs = refl
merged_from-append merged (e ∷ es) fs = merged_from-append (time_after merged e) es fs

-- one more accepted entry
pub merged_from-append_accepted : (merged : ℕ) (es : List Entry) (e : Entry) → e.mark ≡ mark.Accepted → merged_from merged (es ++ e ∷ []) ≡ e.row.stamp
merged_from-append_accepted merged es e h = merged_from-append merged es (e ∷ []) ∙ time_after-accepted (merged_from merged es) e h

-- one more late entry
pub merged_from-append_late : (merged : ℕ) (es : List Entry) (e : Entry) (t : ℕ) → e.mark ≡ mark.Late t → merged_from merged (es ++ e ∷ []) ≡ merged_from merged es
merged_from-append_late merged es e t h = merged_from-append merged es (e ∷ []) ∙ time_after-late (merged_from merged es) e t h

-- a journal is legal exactly where its parts are, the second from the merged time after the first

-- both parts make the whole
pub IsLegalFrom-append : (merged : ℕ) (es fs : List Entry) → IsLegalFrom merged es → IsLegalFrom (merged_from merged es) fs → IsLegalFrom merged (es ++ fs)
IsLegalFrom-append merged [] fs h g = g
IsLegalFrom-append merged (e ∷ es) fs h g = (h.0, IsLegalFrom-append (time_after merged e) es fs h.1 g)

-- the first part
pub IsLegalFrom-append_left : (merged : ℕ) (es fs : List Entry) → IsLegalFrom merged (es ++ fs) → IsLegalFrom merged es
IsLegalFrom-append_left merged [] fs h = tt
IsLegalFrom-append_left merged (e ∷ es) fs h = (h.0, IsLegalFrom-append_left (time_after merged e) es fs h.1)

-- the second part
pub IsLegalFrom-append_right : (merged : ℕ) (es fs : List Entry) → IsLegalFrom merged (es ++ fs) → IsLegalFrom (merged_from merged es) fs
IsLegalFrom-append_right merged [] fs h = h
IsLegalFrom-append_right merged (e ∷ es) fs h = IsLegalFrom-append_right (time_after merged e) es fs h.1

-- one more entry, rightly marked
pub IsLegalFrom-append_one : (merged : ℕ) (es : List Entry) (e : Entry) → IsLegalFrom merged es → IsRightlyMarked (merged_from merged es) e → IsLegalFrom merged (es ++ e ∷ [])
IsLegalFrom-append_one merged es e h g = IsLegalFrom-append merged es (e ∷ []) h (g, tt)

-- the rows of a source in one journal after another

-- one entry of that source or of another
rows_of_step : (source : ℕ) (e : Entry) (b : Bool) (xs ys : List Row) → cond b (e.row ∷ (xs ++ ys)) (xs ++ ys) ≡ cond b (e.row ∷ xs) xs ++ ys
rows_of_step source e true xs ys = refl
rows_of_step source e false xs ys = refl

-- of two journals
pub rows_of-append : (source : ℕ) (es fs : List Entry) → rows_of source (es ++ fs) ≡ rows_of source es ++ rows_of source fs
rows_of-append source [] fs = refl
rows_of-append source (e ∷ es) fs =
    ap (λ rows. cond (nat_eq e.row.source source) (e.row ∷ rows) rows) (rows_of-append source es fs)
    ∙ rows_of_step source e (nat_eq e.row.source source) (rows_of source es) (rows_of source fs)

-- texts and lines, one part after another

-- of two journals
pub trace_text-append : (es fs : List Entry) → trace_text (es ++ fs) ≡ trace_text es ++ trace_text fs
trace_text-append [] fs = refl
trace_text-append (e ∷ es) fs =
    ap (λ t. trace_line e ++ t) (trace_text-append es fs) ∙ sym (append_assoc (trace_line e) (trace_text es) (trace_text fs))

-- one more entry
pub trace_text-append_one : (es : List Entry) (e : Entry) → trace_text (es ++ e ∷ []) ≡ trace_text es ++ trace_line e
trace_text-append_one es e = trace_text-append es (e ∷ []) ∙ ap (λ t. trace_text es ++ t) (append-nil (trace_line e))

-- of two tables
pub table_lines-append : (show : Show) (streams : List Stream) (rows more : List TableRow)
    → table_lines show streams (rows ++ more) ≡ table_lines show streams rows ++ table_lines show streams more
table_lines-append show streams [] more = refl
table_lines-append show streams (row ∷ rows) more =
    ap (λ ls. row_lines show streams row ++ ls) (table_lines-append show streams rows more)
    ∙ sym (append_assoc (row_lines show streams row) (table_lines show streams rows) (table_lines show streams more))

-- one more row
pub table_lines-append_one : (show : Show) (streams : List Stream) (rows : List TableRow) (row : TableRow)
    → table_lines show streams (rows ++ row ∷ []) ≡ table_lines show streams rows ++ row_lines show streams row
table_lines-append_one show streams rows row =
    table_lines-append show streams rows (row ∷ []) ∙ ap (λ ls. table_lines show streams rows ++ ls) (append-nil (row_lines show streams row))

-- of two lists of lines
pub text_of-append : (xs ys : List (List ℕ)) → text_of (xs ++ ys) ≡ text_of xs ++ text_of ys
text_of-append [] ys = refl
text_of-append (x ∷ xs) ys = ap (λ t. x ++ t) (text_of-append xs ys) ∙ sym (append_assoc x (text_of xs) (text_of ys))

-- one more line
pub text_of-append_one : (xs : List (List ℕ)) (x : List ℕ) → text_of (xs ++ x ∷ []) ≡ text_of xs ++ x
text_of-append_one xs x = text_of-append xs (x ∷ []) ∙ ap (λ t. text_of xs ++ t) (append-nil x)

-- what a journal comes to is decided by its accepted rows

module _ (plan : Plan) (start : Option ℕ) (es fs : List Entry) where
  -- without the last deadline
  pub settled_model-by_accepted : accepted es ≡ accepted fs → settled_model plan start es ≡ settled_model plan start fs
  unfolding settled_model
  settled_model-by_accepted h = ap (λ rows. made plan (start_of start rows) (next_settled plan (start_of start rows) rows) (most_steps 0 0 rows) []) h

  -- with it
  pub whole_model-by_accepted : accepted es ≡ accepted fs → whole_model plan start es ≡ whole_model plan start fs
  unfolding whole_model
  whole_model-by_accepted h = ap (λ rows. made plan (start_of start rows) (next_step plan (start_of start rows) rows) (most_steps (after_last rows) 0 rows) []) h

-- so a late entry changes nothing
module _ (plan : Plan) (start : Option ℕ) (es : List Entry) (e : Entry) (t : ℕ) (late : e.mark ≡ mark.Late t) where
  -- the start
  pub run_start-append_late : run_start plan start (es ++ e ∷ []) ≡ run_start plan start es
  run_start-append_late = ap (start_of start) (accepted-append_late es e t late)

  -- the model without the last deadline
  pub settled_model-append_late : settled_model plan start (es ++ e ∷ []) ≡ settled_model plan start es
  settled_model-append_late = settled_model-by_accepted plan start (es ++ e ∷ []) es (accepted-append_late es e t late)

  -- the whole model
  pub whole_model-append_late : whole_model plan start (es ++ e ∷ []) ≡ whole_model plan start es
  whole_model-append_late = whole_model-by_accepted plan start (es ++ e ∷ []) es (accepted-append_late es e t late)

  -- the lines of the one
  pub settled_lines-append_late : (show : Show) → settled_lines plan start (es ++ e ∷ []) show ≡ settled_lines plan start es show
  unfolding settled_lines
  settled_lines-append_late show = ap (table_lines show plan.spec.streams) settled_model-append_late

  -- of the other
  pub final_lines-append_late : (show : Show) → final_lines plan start (es ++ e ∷ []) show ≡ final_lines plan start es show
  unfolding final_lines
  final_lines-append_late show = ap (table_lines show plan.spec.streams) whole_model-append_late

  -- the fault of the one
  pub settled_fault-append_late : settled_fault plan start (es ++ e ∷ []) ≡ settled_fault plan start es
  unfolding settled_fault
  settled_fault-append_late = ap (λ table. fault_of_last (last_row table)) settled_model-append_late

  -- of the other
  pub first_fault-append_late : first_fault plan start (es ++ e ∷ []) ≡ first_fault plan start es
  unfolding first_fault
  first_fault-append_late = ap (λ table. fault_of_last (last_row table)) whole_model-append_late
