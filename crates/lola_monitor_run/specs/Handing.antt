-- Entries that are handed to an engine: what is asked of their rows, and what the engine answers and appends.
use Rattle.std.specs.Prelude.{ℕ, ◌≡◌, ◌≤◌, List, [], ◌∷◌, ◌++◌, None, Some, Result, Ok, Err}
use Rattle.std.specs.List.{AllZip}
use Rattle.lola_value.specs.Times.{latest}
use Rattle.lola_model.specs.Faults.{RunFault}
use Rattle.lola_model.specs.Runs.{settled_fault, settled_lines}
use Rattle.lola_model.specs.Store.{Memories, Seen}
use Rattle.lola_model.specs.Texts.{text_of}
use Rattle.lola_model.specs.Trace.{IsFieldOf, input_kinds}
use Rattle.lola_model.specs.declared.journal.Entry.{Entry}
use Rattle.lola_model.specs.declared.journal.Mark.TheVariants as mark
use Rattle.lola_model.specs.declared.journal.Row.{Row}
use Rattle.lola_model.specs.declared.plan.Plan.{Plan}
use Rattle.lola_engine.specs.Engines.{Accepts, Brings, StandsFor, accepted_entry}
use Rattle.lola_engine.specs.declared.engine.EngineState.{EngineState}
use Rattle.lola_engine.specs.declared.end.EngineEnd.{EngineEnd}
use Rattle.lola_engine.specs.declared.end.EngineEnd.TheVariants.{Fault, Memory}

-- a row that an engine of a plan takes: its stamp is a time, and it has a field for each input, absent or of its kind
pub record IsRowFor (plan : Plan) (row : Row) : Type 0 where
  pub stamp : row.stamp ≤ latest
  pub fields : AllZip IsFieldOf (input_kinds plan.spec.streams) row.fields

-- an entry with such a row
abbrev pub HasRowFor : Plan → Entry → Type 0
HasRowFor plan entry = IsRowFor plan entry.row

-- a late entry
abbrev pub IsLate : Entry → Type 0
IsLate entry = (merged : ℕ) × (entry.mark ≡ mark.Late merged)

-- an engine is for the same plan, start and lines as before
pub record IsSetAs (old new : EngineState) : Type 0 where
  pub plan : new.plan ≡ old.plan
  pub given_start : new.given_start ≡ old.given_start
  pub show : new.show ≡ old.show

-- the settled verdict text of a journal, for the plan, the start and the lines of an engine
abbrev pub settled_text : EngineState → List Entry → List ℕ
settled_text e journal = text_of (settled_lines e.plan e.given_start journal e.show)

-- one entry more was run: the engine stands for the journal with it, and the lines that it brings are appended
pub record RunsEntry (entry : Entry) (journal : List Entry) (old new : EngineState) (s : Seen) (remembers : Memories) (text0 text1 : List ℕ) : Type 0 where
  pub lines : List (List ℕ)
  pub brings : Brings old journal entry lines
  pub text : text1 ≡ text0 ++ text_of lines
  pub stands : StandsFor new s remembers (journal ++ entry ∷ [])

-- what one entry more comes to, whatever journal the engine stands for: it ends at an accepted one, as `accept` says
abbrev pub TakesEntry : Result (Unit {0}) EngineEnd → Entry → EngineState → Seen → Memories → EngineState → Seen → Memories → List ℕ → List ℕ → Type 0
TakesEntry (Ok done) entry old s remembers new s' remembers' text0 text1 =
    (journal : List Entry) → StandsFor old s remembers journal → RunsEntry entry journal old new s' remembers' text0 text1
TakesEntry (Err end) entry old s remembers new s' remembers' text0 text1 =
    (entry ≡ accepted_entry entry.row) × Accepts (Err end) entry.row old s remembers new s' remembers' text0 text1

-- all accepted entries were run, and no settled step has a fault: the engine stands for the journal, and its settled text is appended
pub record HasRunAll (journal : List Entry) (old new : EngineState) (s : Seen) (remembers : Memories) (text0 text1 : List ℕ) : Type 0 where
  pub stands : StandsFor new s remembers journal
  pub fine : settled_fault old.plan old.given_start journal ≡ None
  pub text : text1 ≡ text0 ++ settled_text old journal

-- the fault of the journal's settled steps was met at an accepted entry, and none at an entry before it: the settled text, which is
-- that of the steps before the fault, is appended
pub record HasMet (fault : RunFault) (journal : List Entry) (old : EngineState) (text0 text1 : List ℕ) : Type 0 where
  pub front : List Entry
  pub row : Row
  pub rest : List Entry
  pub whole : journal ≡ front ++ accepted_entry row ∷ rest
  pub none_before : settled_fault old.plan old.given_start front ≡ None
  pub at_entry : settled_fault old.plan old.given_start (front ++ accepted_entry row ∷ []) ≡ Some fault
  pub is_fault : settled_fault old.plan old.given_start journal ≡ Some fault
  pub text : text1 ≡ text0 ++ settled_text old journal

-- want of memory: a front of the settled text is appended
pub record IsCut (journal : List Entry) (old : EngineState) (text0 text1 : List ℕ) : Type 0 where
  pub part : List ℕ
  pub rest : List ℕ
  pub joined : settled_text old journal ≡ part ++ rest
  pub text : text1 ≡ text0 ++ part

-- what handing in the entries of a journal comes to, by the answer
abbrev pub Hands : Result (Unit {0}) EngineEnd → List Entry → EngineState → EngineState → Seen → Memories → List ℕ → List ℕ → Type 0
Hands (Ok done) journal old new s remembers text0 text1 = HasRunAll journal old new s remembers text0 text1
Hands (Err (Fault stream kind time)) journal old new s remembers text0 text1 = HasMet (record { stream = stream; kind = kind; time = time }) journal old text0 text1
Hands (Err Memory) journal old new s remembers text0 text1 = IsCut journal old text0 text1
