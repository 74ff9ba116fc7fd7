-- What the engine's thread takes out of an intake, and what becomes of it.
use Rattle.std.specs.Prelude.{◌≡◌, ◌⊎◌, ◌+◌, ◌<◌, ◌≤◌, ◌^◌, ℕ, Bool, List, [], ◌∷◌, ◌++◌, None, Option, Result, Ok, Err, length}
use Rattle.lola_port.specs.States.{PutBroke, SinkState, grown}
use Rattle.lola_value.specs.declared.value.Kind.{Kind}
use Rattle.lola_model.specs.Faults.{RunFault}
use Rattle.lola_model.specs.Journal.{IsLegalFrom, accepted, merged_from, opening_time}
use Rattle.lola_model.specs.Trace.{input_kinds, trace_text}
use Rattle.lola_model.specs.declared.journal.Entry.{Entry}
use Rattle.lola_feed.specs.SharedIntakes.{IntakeId, TakerShown, new_taker}
use Rattle.lola_monitor_run.specs.Verdicts.{AreOfSources, AreTraceable, IsCutInLine, late_count, settled_fault_in}
use Rattle.lola_monitor_run.specs.Running.{IsGoing, IsRowFor, IsSetAs, Keeping, Received, Writes, setting_in}
use Rattle.lola_monitor_run.specs.Behind.{HasFrontBehind, IsBehind, IsCutAtRowBehind, IsRowFaultBehind, settled_behind}
use Rattle.lola_monitor_run.specs.declared.stop.Stop.{Stop}
use Rattle.lola_monitor_run.specs.declared.stop.Stop.TheVariants as stop
use Rattle.lola_monitor_threads.specs.declared.halt.Halt.{Halt}
use Rattle.lola_monitor_threads.specs.declared.halt.Halt.TheVariants as halt

-- where a run stands: what it keeps, and what was put
pub record Place : Type 0 where
  pub kept : Keeping
  pub out : SinkState
  pub trace : SinkState

abbrev pub place : Keeping → SinkState → SinkState → Place
place kept out trace = record { kept = kept; out = out; trace = trace }

-- the entries of a journal were counted, traced and run, from a place on. Whatever the run stood for there, it stands for them behind
-- it, and their verdicts were put
pub record HasRun (first : Place) (journal : List Entry) (now : Place) : Type 0 where
  pub setting : IsSetAs first.kept now.kept
  pub traceable : AreTraceable first.kept.state.plan journal
  pub trace : now.trace ≡ grown first.trace (trace_text journal)
  pub going : IsGoing now.kept
  pub merged : now.kept.state.merged ≡ merged_from first.kept.state.merged journal
  pub rows : now.kept.state.rows ≤ length (accepted journal) + 1
  pub late : now.kept.late ≡ late_count journal
  pub accepted : now.kept.accepted ≡ length (accepted journal)
  pub received : Received first.out now.out
  pub stands : (before : List Entry) → IsBehind before before first.kept → IsBehind before (before ++ journal) now.kept
  pub out : (before : List Entry) → IsBehind before before first.kept → now.out ≡ grown first.out (settled_behind (setting_in first.kept) before journal)

-- the last of them has a fault
pub record HasMetFault (fault : RunFault) (before : List Entry) (first : Place) (journal : List Entry) (now : Place) : Type 0 where
  pub stands : IsRowFaultBehind (setting_in first.kept) before journal fault
  pub trace : now.trace ≡ grown first.trace (trace_text journal)
  pub out : now.out ≡ grown first.out (settled_behind (setting_in first.kept) before journal)

-- the last of them has a fault, and the lines before it were cut short
pub record IsCutAtFault (fault : RunFault) (before : List Entry) (first : Place) (journal : List Entry) (now : Place) : Type 0 where
  pub stands : IsRowFaultBehind (setting_in first.kept) before journal fault
  pub trace : now.trace ≡ grown first.trace (trace_text journal)
  pub out : PutBroke first.out now.out (settled_behind (setting_in first.kept) before journal)

-- the line of one entry more was cut short: the verdicts of all of them were put, and none has a fault
pub record IsCutInTrace (before : List Entry) (first : Place) (journal : List Entry) (now : Place) : Type 0 where
  pub no_fault : settled_fault_in (setting_in first.kept) (before ++ journal) ≡ None
  pub trace : IsCutInLine first.kept.state.plan first.trace now.trace journal
  pub out : now.out ≡ grown first.out (settled_behind (setting_in first.kept) before journal)

-- the verdicts of the last of them were cut short, and none has a fault
pub record IsCutInRow (before : List Entry) (first : Place) (journal : List Entry) (now : Place) : Type 0 where
  pub no_fault : settled_fault_in (setting_in first.kept) (before ++ journal) ≡ None
  pub trace : now.trace ≡ grown first.trace (trace_text journal)
  pub out : IsCutAtRowBehind (setting_in first.kept) before first.out now.out journal

-- there was no memory: they were traced, and a front of their verdicts was put
pub record IsOutOfMemory (before : List Entry) (first : Place) (journal : List Entry) (now : Place) : Type 0 where
  pub trace : now.trace ≡ grown first.trace (trace_text journal)
  pub out : HasFrontBehind (setting_in first.kept) before first.out now.out journal

-- what stopped a run at a journal behind a front that it stood for at first, and what was put
abbrev pub StopsBy : Stop → List Entry → Place → List Entry → Place → Type 0
StopsBy (stop.Fault stream kind time) before first journal now = HasMetFault (record { stream = stream; kind = kind; time = time }) before first journal now
StopsBy (stop.CutFault stream kind time) before first journal now = IsCutAtFault (record { stream = stream; kind = kind; time = time }) before first journal now
StopsBy stop.Put before first journal now = IsCutInTrace before first journal now ⊎ IsCutInRow before first journal now
StopsBy stop.Memory before first journal now = IsOutOfMemory before first journal now

-- how a run is stopped at a journal, whatever it stood for at first
pub record StopsAt (how : Stop) (first : Place) (journal : List Entry) (now : Place) : Type 0 where
  pub traceable : AreTraceable first.kept.state.plan journal
  pub writes : Writes (Err how) first.out now.out first.trace now.trace
  pub by : (before : List Entry) → IsBehind before before first.kept → StopsBy how before first journal now

-- an entry behind a journal was traced and run, or what stopped the run at it
abbrev pub RunsOne : Result (Unit {0}) Stop → Place → List Entry → Entry → Place → Type 0
RunsOne (Ok done) first journal entry now = HasRun first (journal ++ entry ∷ []) now
RunsOne (Err how) first journal entry now = (front : List Entry) × ((front ≡ journal) ⊎ (front ≡ journal ++ entry ∷ [])) × StopsAt how first front now

-- whatever journal was run before, these entries were run behind it
abbrev pub GoesOn : List Entry → Place → Place → Type 0
GoesOn more old now = (first : Place) (journal : List Entry) → HasRun first journal old → HasRun first (journal ++ more) now

-- how many rows a run may take
abbrev pub most_taken : ℕ
most_taken = 2 ^ 46

-- how many sources a run has, and the kinds of its plan's inputs
pub record InputsOf : Type 0 where
  pub count : ℕ
  pub kinds : List Kind

-- what the engine's thread takes rows with
pub record Taking : Type 0 where
  pub seat : TakerShown
  pub inputs : InputsOf
  pub batch : List Entry

-- it takes rows of an intake for a run: nothing is in its batch, and it was made for the run's plan
pub record IsReady (taking : Taking) (intake : IntakeId) (kept : Keeping) : Type 0 where
  pub own : taking.seat.intake ≡ intake
  pub kinds : taking.inputs.kinds ≡ input_kinds kept.state.plan.spec.streams
  pub empty : taking.batch ≡ []

-- all that was taken so far was run, in a run whose merged time was at first that from which on the intake marks rows
pub record HasRunTaken (taking : Taking) (now : Place) : Type 0 where
  pub first : Place
  pub opens : opening_time taking.seat.start ≡ first.kept.state.merged
  pub run : HasRun first taking.seat.taken now

-- what so many sources of a run give is taken with this before the first row: rows are marked from the run's merged time on
pub record IsNewTaker (intake : IntakeId) (count : ℕ) (kept : Keeping) (taking : Taking) : Type 0 where
  pub start : Option ℕ
  pub opens : opening_time start ≡ kept.state.merged
  pub made : taking ≡ record { seat = new_taker intake count start; inputs = record { count = count; kinds = input_kinds kept.state.plan.spec.streams }; batch = [] }

-- a taker's seat stays that of its intake, with as many sources, and from when on
pub record IsSameTaker (old new : TakerShown) : Type 0 where
  pub intake : new.intake ≡ old.intake
  pub sources : new.sources ≡ old.sources
  pub start : new.start ≡ old.start

-- an entry that a run of a plan takes: its source is one of so many, its row fits the plan, and one row more can be counted
pub record IsFit (count : ℕ) (kept : Keeping) (entry : Entry) : Type 0 where
  pub source : entry.row.source < count
  pub row : IsRowFor kept.state.plan entry.row
  pub room : kept.accepted + kept.late < most_taken

-- entries were run up to one that no run takes
pub record IsUnfit (count : ℕ) (first : Place) (taken : List Entry) (now : Place) : Type 0 where
  pub front : List Entry
  pub entry : Entry
  pub behind : List Entry
  pub joined : taken ≡ front ++ entry ∷ behind
  pub sources : AreOfSources count front
  pub run : HasRun first front now
  pub unfit : IsFit count now.kept entry → ⊥

-- entries were run up to one at which the run was stopped
pub record IsStopped (how : Stop) (count : ℕ) (first : Place) (taken : List Entry) (now : Place) : Type 0 where
  pub front : List Entry
  pub behind : List Entry
  pub joined : taken ≡ front ++ behind
  pub sources : AreOfSources count front
  pub stops : StopsAt how first front now

-- what became of all entries that were taken
abbrev pub Halts : Result (Unit {0}) Halt → ℕ → Place → List Entry → Place → Type 0
Halts (Ok done) count first taken now = HasRun first taken now × AreOfSources count taken
Halts (Err (halt.Stopped how)) count first taken now = IsStopped how count first taken now
Halts (Err halt.Unfit) count first taken now = IsUnfit count first taken now

-- some entries were run, and behind them these are rightly marked
pub record IsPartlyRun (now : Place) (more : List Entry) : Type 0 where
  pub first : Place
  pub journal : List Entry
  pub run : HasRun first journal now
  pub marked : IsLegalFrom first.kept.state.merged (journal ++ more)

-- what a take came to, whether or not all is done
abbrev pub was_taken : Result Bool Halt → Result (Unit {0}) Halt
was_taken (Ok done) = Ok tt
was_taken (Err how) = Err how
