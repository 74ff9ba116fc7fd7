-- What an engine stands for that goes on where others left off: a journal whose front they have run.
use Rattle.std.specs.Prelude.{ℕ, ◌≡◌, ◌+◌, ◌-◌, ◌⊎◌, List, [], ◌∷◌, ◌++◌, None, Result, Ok, Err, length}
use Rattle.lola_model.specs.Journal.{accepted, merged_from, opening_time}
use Rattle.lola_model.specs.Runs.{final_lines, first_fault, settled_fault, settled_lines, settled_model, whole_model}
use Rattle.lola_model.specs.Store.{Memories, Seen}
use Rattle.lola_model.specs.Texts.{text_of}
use Rattle.lola_model.specs.declared.journal.Entry.{Entry}
use Rattle.lola_model.specs.declared.journal.Row.{Row}
use Rattle.lola_engine.specs.Engines.{Brings, Completes, CutsOut, CutsRow, FaultAtEnd, FaultInRow, IsUnderWay, IsWaiting, accepted_entry}
use Rattle.lola_engine.specs.declared.engine.EngineState.{EngineState}
use Rattle.lola_engine.specs.declared.end.EngineEnd.{EngineEnd}
use Rattle.lola_engine.specs.declared.end.EngineEnd.TheVariants.{Fault, Memory}

-- other engines have run the settled steps of a front of a journal, and this one those that came since; none has a fault. It counts
-- its own steps and lines, and rows from the last one of the front on
pub record StandsBehind (e : EngineState) (s : Seen) (remembers : Memories) (before journal : List Entry) : Type 0 where
  pub since : List Entry
  pub split : journal ≡ before ++ since
  pub going : e.ended ≡ None
  pub fine : settled_fault e.plan e.given_start journal ≡ None
  pub merged : e.merged ≡ merged_from (opening_time e.given_start) journal
  pub behind : e.behind ≡ length (settled_model e.plan e.given_start before)
  pub steps : e.behind + e.steps ≡ length (settled_model e.plan e.given_start journal)
  pub lines : length (settled_lines e.plan e.given_start before e.show) + e.lines ≡ length (settled_lines e.plan e.given_start journal e.show)
  pub rows : (length (accepted before) - 1) + e.rows ≡ length (accepted journal)
  pub state : IsWaiting e s remembers journal ⊎ IsUnderWay e s remembers journal

-- a row and the deadlines before it were run: the lines that they bring are appended
pub record RunsRowBehind (row : Row) (before journal : List Entry) (old new : EngineState) (s : Seen) (remembers : Memories) (text0 text1 : List ℕ) : Type 0 where
  pub lines : List (List ℕ)
  pub brings : Brings old journal (accepted_entry row) lines
  pub text : text1 ≡ text0 ++ text_of lines
  pub stands : StandsBehind new s remembers before (journal ++ accepted_entry row ∷ [])

-- what an engine does with a row, whatever journal it stands for and whatever front of it others have run, by its answer
abbrev pub AcceptsBehind : Result (Unit {0}) EngineEnd → Row → EngineState → Seen → Memories → EngineState → Seen → Memories → List ℕ → List ℕ → Type 0
AcceptsBehind (Ok done) row old s remembers new s' remembers' text0 text1 =
    (before journal : List Entry) → StandsBehind old s remembers before journal → RunsRowBehind row before journal old new s' remembers' text0 text1
AcceptsBehind (Err (Fault stream kind time)) row old s remembers new s' remembers' text0 text1 =
    (before journal : List Entry) → StandsBehind old s remembers before journal → FaultInRow row (record { stream = stream; kind = kind; time = time }) journal old text0 text1
AcceptsBehind (Err Memory) row old s remembers new s' remembers' text0 text1 =
    (before journal : List Entry) → StandsBehind old s remembers before journal → CutsRow row journal old text0 text1

-- the deadlines at the last stamp were run: all that is behind the front is counted, and its lines appended
pub record RunsOutBehind (before journal : List Entry) (old new : EngineState) (text0 text1 : List ℕ) : Type 0 where
  pub fine : first_fault old.plan old.given_start journal ≡ None
  pub lines : List (List ℕ)
  pub completes : Completes old journal lines
  pub text : text1 ≡ text0 ++ text_of lines
  pub steps : length (settled_model old.plan old.given_start before) + new.steps ≡ length (whole_model old.plan old.given_start journal)
  pub counted : length (settled_lines old.plan old.given_start before old.show) + new.lines ≡ length (final_lines old.plan old.given_start journal old.show)

-- what an engine does at the end of a run
abbrev pub FinishesBehind : Result (Unit {0}) EngineEnd → EngineState → Seen → Memories → EngineState → List ℕ → List ℕ → Type 0
FinishesBehind (Ok done) old s remembers new text0 text1 =
    (before journal : List Entry) → StandsBehind old s remembers before journal → RunsOutBehind before journal old new text0 text1
FinishesBehind (Err (Fault stream kind time)) old s remembers new text0 text1 =
    (before journal : List Entry) → StandsBehind old s remembers before journal → FaultAtEnd (record { stream = stream; kind = kind; time = time }) journal old text0 text1
FinishesBehind (Err Memory) old s remembers new text0 text1 =
    (before journal : List Entry) → StandsBehind old s remembers before journal → CutsOut journal old text0 text1
