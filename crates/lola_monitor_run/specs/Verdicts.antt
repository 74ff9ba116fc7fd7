-- What a journal of rows comes to under a plan, and what of it a sink has.
use Rattle.std.specs.Prelude.{ℕ, ◌≡◌, ◌+◌, ◌<◌, ◌≤◌, List, [], ◌∷◌, ◌++◌, Option, None, Some, All, length}
use Rattle.std.specs.List.{AllByRecursion}
use Rattle.lola_port.specs.States.{PutBroke, SinkState, grown}
use Rattle.lola_model.specs.Faults.{RunFault}
use Rattle.lola_model.specs.Runs.{final_lines, first_fault, settled_fault, settled_lines}
use Rattle.lola_model.specs.Texts.{text_of}
use Rattle.lola_model.specs.Trace.{IsTraceable, trace_line, trace_text}
use Rattle.lola_model.specs.declared.plan.Plan.{Plan}
use Rattle.lola_model.specs.declared.journal.Row.{Row}
use Rattle.lola_model.specs.declared.journal.Entry.{Entry}
use Rattle.lola_model.specs.declared.journal.Mark.TheVariants as mark
use Rattle.lola_model.specs.declared.journal.Show.{Show}

-- the most rows of a source
abbrev pub most_rows : ℕ
most_rows = 1099511627776

-- how many entries are late
abbrev pub add_late : Entry → ℕ → ℕ
add_late e count = elim e.mark [ mark.Accepted ↦ count | mark.Late m ↦ count + 1 ]

abbrev pub late_count : List Entry → ℕ
late_count [] = 0
late_count (e ∷ es) = add_late e (late_count es)

-- what decides the model of a journal's rows and its lines: the plan, where time begins if that is told, and what is shown
pub record Setting : Type 0 where
  pub plan : Plan
  pub start : Option ℕ
  pub show : Show

-- all verdicts of a journal's rows
abbrev pub verdicts : Setting → List Entry → List ℕ
verdicts s journal = text_of (final_lines s.plan s.start journal s.show)

-- the first fault, if there is one
abbrev pub fault_in : Setting → List Entry → Option RunFault
fault_in s journal = first_fault s.plan s.start journal

-- the fault of the settled steps, those before the deadline of the last stamp
abbrev pub settled_fault_in : Setting → List Entry → Option RunFault
settled_fault_in s journal = settled_fault s.plan s.start journal

-- each entry is of a source of this call
abbrev pub AreOfSources : ℕ → List Entry → Type 0
AreOfSources count journal = All (λ (e : Entry). e.row.source < count) journal

-- the journal ends with the row at whose step, or at a deadline before it, the settled steps first have this fault
pub record IsRowFault (s : Setting) (journal : List Entry) (fault : RunFault) : Type 0 where
  pub front : List Entry
  pub row : Row
  pub whole : journal ≡ front ++ record { row = row; mark = mark.Accepted } ∷ []
  pub none_before : settled_fault_in s front ≡ None
  pub settled : settled_fault_in s journal ≡ Some fault

-- the settled verdicts of a journal
abbrev pub settled_text : Setting → List Entry → List ℕ
settled_text s journal = text_of (settled_lines s.plan s.start journal s.show)

-- each entry is one that a line of the plan's trace can tell
abbrev pub AreTraceable : Plan → List Entry → Type 0
AreTraceable plan journal = AllByRecursion (IsTraceable plan) journal

-- the sink received the lines of a journal and then, a put having failed, a proper part of the line of one more entry, which the
-- plan's trace can tell
pub record IsCutInLine (plan : Plan) (old new : SinkState) (journal : List Entry) : Type 0 where
  pub entry : Entry
  pub traceable : IsTraceable plan entry
  pub cut : PutBroke (grown old (trace_text journal)) new (trace_line entry)

-- the sink received the verdicts of all entries of a journal but the last and then, a put having failed, a proper part of those that
-- the last brings, an accepted row
pub record IsCutAtRow (s : Setting) (old new : SinkState) (journal : List Entry) : Type 0 where
  pub front : List Entry
  pub row : Row
  pub whole : journal ≡ front ++ record { row = row; mark = mark.Accepted } ∷ []
  pub brings : List ℕ
  pub joined : settled_text s journal ≡ settled_text s front ++ brings
  pub more : List ℕ
  pub all : verdicts s journal ≡ settled_text s journal ++ more
  pub cut : PutBroke (grown old (settled_text s front)) new brings

-- the sink received all settled verdicts of a journal and then, a put having failed, a proper part of those of the deadlines at the
-- last stamp
pub record IsCutAtDeadline (s : Setting) (old new : SinkState) (journal : List Entry) : Type 0 where
  pub brings : List ℕ
  pub joined : verdicts s journal ≡ settled_text s journal ++ brings
  pub cut : PutBroke (grown old (settled_text s journal)) new brings

-- the sink received a front of the verdicts of a journal and nothing else: the settled ones of all entries, or of all but the last
pub record HasFront (s : Setting) (old new : SinkState) (journal : List Entry) : Type 0 where
  pub front : List Entry
  pub last : List Entry
  pub whole : journal ≡ front ++ last
  pub few : length last ≤ 1
  pub more : List ℕ
  pub joined : verdicts s journal ≡ settled_text s front ++ more
  pub put : new ≡ grown old (settled_text s front)
