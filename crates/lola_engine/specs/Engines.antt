-- What an engine stands for, and what a row and the end of a run bring.
use Rattle.std.specs.Prelude.{ℕ, ◌≡◌, ◌+◌, ◌-◌, ◌*◌, ◌^◌, ◌<◌, ◌≤◌, ◌⊎◌, List, [], ◌∷◌, ◌++◌, Option, Some, None, IsSome, Result, Ok, Err, length, max}
use Rattle.std.specs.List.{AllZip}
use Rattle.lola_value.specs.Naming.{Naming}
use Rattle.lola_value.specs.Times.{latest}
use Rattle.lola_model.specs.Trace.{IsFieldOf, input_kinds}
use Rattle.lola_model.specs.Acceptance.{IsAccepted}
use Rattle.lola_model.specs.Faults.{RunFault}
use Rattle.lola_model.specs.Journal.{accepted, merged_from, opening_time}
use Rattle.lola_model.specs.NextStep.{has_local}
use Rattle.lola_model.specs.Runs.{content_after, first_fault, final_lines, run_start, settled_fault, settled_lines, settled_model, whole_model}
use Rattle.lola_model.specs.Standing.{StandsBetween}
use Rattle.lola_model.specs.Steps.{rates_of}
use Rattle.lola_model.specs.Store.{IsNew, IsStarted, Memories, instances_seen, Seen, layout_of, new_seen, start_seen, time_seen}
use Rattle.lola_model.specs.Texts.{text_of}
use Rattle.lola_model.specs.declared.journal.Entry.{Entry}
use Rattle.lola_model.specs.declared.journal.Mark.TheVariants as mark
use Rattle.lola_model.specs.declared.journal.Row.{Row}
use Rattle.lola_step_contents.specs.Ready.{HasTexts}
use Rattle.lola_text.specs.Texts.{IsTable}
use Rattle.lola_step.specs.Progress.{IsOf, IsRun}
use Rattle.lola_step.specs.Scratches.{IsScratchOf}
use Rattle.lola_engine.specs.Rates.{HaveDeadlinesOf}
use Rattle.lola_engine.specs.declared.engine.EngineState.{EngineState}
use Rattle.lola_engine.specs.declared.end.EngineEnd.{EngineEnd}
use Rattle.lola_engine.specs.declared.end.EngineEnd.TheVariants.{Fault, Memory}

-- the store and the clock have started together
abbrev pub AreStarted : Seen → Option ℕ → Type 0
AreStarted s None = IsNew s
AreStarted s (Some start) = IsStarted s × (start_seen s ≡ start)

-- what holds of every engine, also between the steps of one call, whose store shows this
pub record IsSound (e : EngineState) (s : Seen) : Type 0 where
  pub accepted : IsAccepted e.plan
  pub workers : (1 ≤ e.workers) × (e.workers ≤ 64)
  pub rates : HaveDeadlinesOf (rates_of e.plan.pacings) e.clock.rates
  pub local : e.local ≡ has_local e.plan.pacings
  pub of : IsOf e.plan s
  pub started : AreStarted s e.clock.start
  pub scratch : IsScratchOf e.plan e.scratch
  pub table : IsTable e.texts
  pub texts : HasTexts e.texts.held e.plan.spec.texts
  pub counted : e.behind + e.steps ≤ s.steps
  pub few_lines : e.lines ≤ e.steps * 2 ^ 64

-- what holds of every engine between calls
pub record IsEngine (e : EngineState) (s : Seen) : Type 0 where
  pub sound : IsSound e s
  -- no step lies behind the last stamp, and all before it is passed
  pub time : time_seen s ≤ e.merged
  pub passed : (start : ℕ) → e.clock.start ≡ Some start → e.clock.passed ≡ max start (e.merged - 1)
  pub merged : e.merged ≤ latest
  -- numbers stay in their ranges: each step since the engine was made has a row or a moment of its own, and each row at most 64 new texts
  pub few_behind : e.behind ≤ 2 ^ 62
  pub few_rows : e.rows ≤ 2 ^ 47
  pub few_steps : s.steps ≤ e.behind + e.rows + e.merged
  pub few_texts : e.texts.given ≤ 2 ^ 62 + 64 * e.rows
  pub few_swept : e.swept ≤ 2 ^ 62 + 64 * e.rows

-- a row, accepted
abbrev pub accepted_entry : Row → Entry
accepted_entry row = record { row = row; mark = mark.Accepted }

-- nothing has begun: the engine waits for the first row, whose stamp will be its start
pub record IsWaiting (e : EngineState) (s : Seen) (remembers : Memories) (journal : List Entry) : Type 0 where
  pub without : e.given_start ≡ None
  pub none : accepted journal ≡ []
  pub new : s ≡ new_seen (layout_of e.plan)
  pub past : (names : Naming) (n i : ℕ) → i < length (instances_seen s n) → remembers names n i []
  pub clock : e.clock.start ≡ None

-- it runs: a start was given or a row came; the store stands for the content after the rows of the settled model, and the clock has
-- passed what came before the last row
pub record IsUnderWay (e : EngineState) (s : Seen) (remembers : Memories) (journal : List Entry) : Type 0 where
  pub begun : accepted journal ≡ [] → IsSome e.given_start
  pub run : IsRun e.plan e.texts.held (settled_model e.plan e.given_start journal)
  pub stands : StandsBetween e.texts.held remembers s (content_after e.plan (run_start e.plan e.given_start journal) (settled_model e.plan e.given_start journal))
  pub clock : e.clock.start ≡ Some (run_start e.plan e.given_start journal)
  pub passed : e.clock.passed ≡ max (run_start e.plan e.given_start journal) (e.merged - 1)

-- the engine has run the settled steps of a journal, none of which has a fault
pub record StandsFor (e : EngineState) (s : Seen) (remembers : Memories) (journal : List Entry) : Type 0 where
  pub going : e.ended ≡ None
  pub fine : settled_fault e.plan e.given_start journal ≡ None
  pub merged : e.merged ≡ merged_from (opening_time e.given_start) journal
  pub steps : e.steps ≡ length (settled_model e.plan e.given_start journal)
  pub lines : e.lines ≡ length (settled_lines e.plan e.given_start journal e.show)
  pub rows : e.rows ≡ length (accepted journal)
  pub state : IsWaiting e s remembers journal ⊎ IsUnderWay e s remembers journal

-- the verdict lines that an entry brings behind those of a journal
abbrev pub Brings : EngineState → List Entry → Entry → List (List ℕ) → Type 0
Brings e journal entry lines = settled_lines e.plan e.given_start (journal ++ entry ∷ []) e.show ≡ settled_lines e.plan e.given_start journal e.show ++ lines

-- a row and the deadlines before it were run: the lines that they bring are appended
pub record RunsRow (row : Row) (journal : List Entry) (old new : EngineState) (s : Seen) (remembers : Memories) (text0 text1 : List ℕ) : Type 0 where
  pub lines : List (List ℕ)
  pub brings : Brings old journal (accepted_entry row) lines
  pub text : text1 ≡ text0 ++ text_of lines
  pub stands : StandsFor new s remembers (journal ++ accepted_entry row ∷ [])

-- one of these steps has a fault: the lines of the steps before it are appended
pub record FaultInRow (row : Row) (fault : RunFault) (journal : List Entry) (old : EngineState) (text0 text1 : List ℕ) : Type 0 where
  pub is_fault : settled_fault old.plan old.given_start (journal ++ accepted_entry row ∷ []) ≡ Some fault
  pub lines : List (List ℕ)
  pub brings : Brings old journal (accepted_entry row) lines
  pub text : text1 ≡ text0 ++ text_of lines

-- want of memory: a front of the lines may be appended
pub record CutsRow (row : Row) (journal : List Entry) (old : EngineState) (text0 text1 : List ℕ) : Type 0 where
  pub lines : List (List ℕ)
  pub brings : Brings old journal (accepted_entry row) lines
  pub part : List ℕ
  pub rest : List ℕ
  pub joined : text_of lines ≡ part ++ rest
  pub text : text1 ≡ text0 ++ part

-- what an engine does with a row, whatever journal it stands for, by its answer
abbrev pub Accepts : Result (Unit {0}) EngineEnd → Row → EngineState → Seen → Memories → EngineState → Seen → Memories → List ℕ → List ℕ → Type 0
Accepts (Ok done) row old s remembers new s' remembers' text0 text1 =
    (journal : List Entry) → StandsFor old s remembers journal → RunsRow row journal old new s' remembers' text0 text1
Accepts (Err (Fault stream kind time)) row old s remembers new s' remembers' text0 text1 =
    (journal : List Entry) → StandsFor old s remembers journal → FaultInRow row (record { stream = stream; kind = kind; time = time }) journal old text0 text1
Accepts (Err Memory) row old s remembers new s' remembers' text0 text1 =
    (journal : List Entry) → StandsFor old s remembers journal → CutsRow row journal old text0 text1

-- the lines of the whole model behind those of the settled one
abbrev pub Completes : EngineState → List Entry → List (List ℕ) → Type 0
Completes e journal lines = final_lines e.plan e.given_start journal e.show ≡ settled_lines e.plan e.given_start journal e.show ++ lines

-- the deadlines at the last stamp were run: all is counted and appended
pub record RunsOut (journal : List Entry) (old new : EngineState) (text0 text1 : List ℕ) : Type 0 where
  pub fine : first_fault old.plan old.given_start journal ≡ None
  pub lines : List (List ℕ)
  pub completes : Completes old journal lines
  pub text : text1 ≡ text0 ++ text_of lines
  pub steps : new.steps ≡ length (whole_model old.plan old.given_start journal)
  pub counted : new.lines ≡ length (final_lines old.plan old.given_start journal old.show)

-- their step has a fault
pub record FaultAtEnd (fault : RunFault) (journal : List Entry) (old : EngineState) (text0 text1 : List ℕ) : Type 0 where
  pub is_fault : first_fault old.plan old.given_start journal ≡ Some fault
  pub completes : Completes old journal []
  pub text : text1 ≡ text0

-- want of memory
pub record CutsOut (journal : List Entry) (old : EngineState) (text0 text1 : List ℕ) : Type 0 where
  pub lines : List (List ℕ)
  pub completes : Completes old journal lines
  pub part : List ℕ
  pub rest : List ℕ
  pub joined : text_of lines ≡ part ++ rest
  pub text : text1 ≡ text0 ++ part

-- what an engine does at the end of a run
abbrev pub Finishes : Result (Unit {0}) EngineEnd → EngineState → Seen → Memories → EngineState → List ℕ → List ℕ → Type 0
Finishes (Ok done) old s remembers new text0 text1 = (journal : List Entry) → StandsFor old s remembers journal → RunsOut journal old new text0 text1
Finishes (Err (Fault stream kind time)) old s remembers new text0 text1 =
    (journal : List Entry) → StandsFor old s remembers journal → FaultAtEnd (record { stream = stream; kind = kind; time = time }) journal old text0 text1
Finishes (Err Memory) old s remembers new text0 text1 = (journal : List Entry) → StandsFor old s remembers journal → CutsOut journal old text0 text1

-- a row that an engine takes: its stamp is a time and not before the merged time, and it has a field for each input, absent or of its kind
pub record IsTakeable (e : EngineState) (row : Row) : Type 0 where
  pub in_time : row.stamp ≤ latest
  pub order : e.merged ≤ row.stamp
  pub more : e.rows < 2 ^ 47
  pub fields : AllZip IsFieldOf (input_kinds e.plan.spec.streams) row.fields

-- a start that is a time, if one is given
abbrev pub IsOptionInTime : Option ℕ → Type 0
IsOptionInTime None = Unit {0}
IsOptionInTime (Some t) = t ≤ latest
