-- A run: what its calls do with rows, whatever journal it stands for.
use Rattle.std.specs.Prelude.{ℕ, ◌≡◌, ◌⊎◌, ◌+◌, ◌^◌, ◌<◌, ◌≤◌, List, [], ◌∷◌, ◌++◌, None, Some, Result, Ok, Err}
use Rattle.std.specs.List.{AllZip}
use Rattle.lola_value.specs.Times.{latest}
use Rattle.lola_port.specs.States.{PutBroke, Rose, SinkState, grown}
use Rattle.lola_port.specs.declared.traits.PutEnd.{PutEnd}
use Rattle.lola_port.specs.declared.traits.PutEnd.TheVariants as put
use Rattle.lola_model.specs.Journal.{IsRightlyMarked}
use Rattle.lola_model.specs.Faults.{RunFault}
use Rattle.lola_model.specs.Texts.{text_of}
use Rattle.lola_model.specs.Trace.{IsFieldOf, input_kinds, trace_line}
use Rattle.lola_model.specs.declared.plan.Plan.{Plan}
use Rattle.lola_model.specs.declared.journal.Row.{Row}
use Rattle.lola_model.specs.declared.journal.Entry.{Entry}
use Rattle.lola_model.specs.declared.journal.Mark.TheVariants as mark
use Rattle.lola_instances.specs.declared.store.BoundedStore.{BoundedStore}
use Rattle.lola_instances.specs.Stores.{bounded_remembers, bounded_seen}
use Rattle.lola_engine.specs.Behind.{AcceptsBehind}
use Rattle.lola_engine.specs.Engines.{Brings, Completes, IsEngine}
use Rattle.lola_engine.specs.declared.engine.EngineState.{EngineState}
use Rattle.lola_engine.specs.declared.end.EngineEnd.{EngineEnd}
use Rattle.lola_engine.specs.declared.end.EngineEnd.TheVariants as engine_end
use Rattle.lola_monitor_run.specs.Verdicts.{Setting, fault_in, settled_fault_in}
use Rattle.lola_monitor_run.specs.declared.stop.Stop.{Stop}
use Rattle.lola_monitor_run.specs.declared.stop.Stop.TheVariants as stop
use Rattle.lola_monitor_run.specs.declared.run.Run.{Run}

-- a row that an engine of a plan takes: its stamp is a time, and it has a field for each input, absent or of its kind
pub record IsRowFor (plan : Plan) (row : Row) : Type 0 where
  pub stamp : row.stamp ≤ latest
  pub fields : AllZip IsFieldOf (input_kinds plan.spec.streams) row.fields

-- what a run keeps: its engine with the store, and how many rows were accepted and late
pub record Keeping : Type 0 where
  pub state : EngineState
  pub store : BoundedStore
  pub accepted : ℕ
  pub late : ℕ

-- what a run keeps but its room for lines
abbrev pub keeping : Run → Keeping
keeping r = record { state = r.engine.state; store = r.engine.store; accepted = r.accepted; late = r.late }

-- what an engine was made for
abbrev pub setting_at : EngineState → Setting
setting_at e = record { plan = e.plan; start = e.given_start; show = e.show }

-- what a run is made for
abbrev pub setting_in : Keeping → Setting
setting_in kept = setting_at kept.state

-- a run that goes on
abbrev pub IsGoing : Keeping → Type 0
IsGoing kept = IsEngine kept.state (bounded_seen kept.store)

-- one row more can be counted
pub record HasRoom (kept : Keeping) : Type 0 where
  pub engine : kept.state.rows < 2 ^ 47
  pub rows : kept.accepted + kept.late < 2 ^ 62

-- a step of an entry has a fault: the lines of the steps before it were put
pub record FaultNext (fault : RunFault) (journal : List Entry) (entry : Entry) (old : Keeping) (out0 out1 : SinkState) : Type 0 where
  pub is_fault : settled_fault_in (setting_in old) (journal ++ entry ∷ []) ≡ Some fault
  pub lines : List (List ℕ)
  pub brings : Brings old.state journal entry lines
  pub out : out1 ≡ grown out0 (text_of lines)

-- an accepted entry
abbrev pub IsAccepted : Entry → Type 0
IsAccepted entry = elim entry.mark [ mark.Accepted ↦ Unit {0} | mark.Late m ↦ ⊥ ]

-- a step of an entry has a fault: the lines of the steps before it were cut short
pub record CutFaultNext (fault : RunFault) (journal : List Entry) (entry : Entry) (old : Keeping) (out0 out1 : SinkState) : Type 0 where
  pub is_fault : settled_fault_in (setting_in old) (journal ++ entry ∷ []) ≡ Some fault
  pub lines : List (List ℕ)
  pub brings : Brings old.state journal entry lines
  pub out : PutBroke out0 out1 (text_of lines)

-- the lines of an entry were cut short, and no step of it has a fault
pub record CutNext (journal : List Entry) (entry : Entry) (old : Keeping) (out0 out1 : SinkState) : Type 0 where
  pub fine : settled_fault_in (setting_in old) (journal ++ entry ∷ []) ≡ None
  pub lines : List (List ℕ)
  pub brings : Brings old.state journal entry lines
  pub out : PutBroke out0 out1 (text_of lines)

-- the lines of an entry were not put
pub record KeptNext (journal : List Entry) (entry : Entry) (old : Keeping) (out0 out1 : SinkState) : Type 0 where
  pub lines : List (List ℕ)
  pub brings : Brings old.state journal entry lines
  pub out : out1 ≡ out0

-- an entry is marked as the merged time of a run asks
abbrev pub IsNext : Keeping → Entry → Type 0
IsNext kept entry = IsRightlyMarked kept.state.merged entry

-- a run is made for the same as before
abbrev pub IsSetAs : Keeping → Keeping → Type 0
IsSetAs old new = setting_in new ≡ setting_in old

-- what an engine of a run does with a row that is given an empty text
abbrev pub AcceptsRow : Result (Unit {0}) EngineEnd → Row → Keeping → Keeping → List ℕ → Type 0
AcceptsRow result row old new text =
    AcceptsBehind result row old.state (bounded_seen old.store) (bounded_remembers old.store) new.state (bounded_seen new.store) (bounded_remembers new.store) [] text

-- the engine has run a row, and appended this text; what the run keeps goes with it
pub record RanRow (row : Row) (old new : Keeping) (text : List ℕ) : Type 0 where
  pub accepts : AcceptsRow (Ok tt) row old new text
  pub going : IsGoing new
  pub merged : new.state.merged ≡ row.stamp
  pub accepted : new.accepted ≡ old.accepted + 1
  pub late : new.late ≡ old.late
  pub rows : new.state.rows ≡ old.state.rows + 1
  pub setting : IsSetAs old new

-- a step of a row has a fault
abbrev pub FaultOfRow : Row → Keeping → Keeping → List ℕ → RunFault → Type 0
FaultOfRow row old new text fault = AcceptsRow (Err (engine_end.Fault fault.stream fault.kind fault.time)) row old new text

-- the lines of a row are there: it was run, or a step of it has a fault
abbrev pub HasText : Row → Keeping → Keeping → List ℕ → Type 0
HasText row old new text = RanRow row old new text ⊎ ((fault : RunFault) × FaultOfRow row old new text fault)

-- an accepted row was run and its text put, or what kept it from that
abbrev pub RunsAccepted : Result (Unit {0}) Stop → Row → Keeping → Keeping → SinkState → SinkState → Type 0
RunsAccepted (Ok done) row old new out0 out1 = (text : List ℕ) × RanRow row old new text × (out1 ≡ grown out0 text)
RunsAccepted (Err (stop.Fault stream kind time)) row old new out0 out1 = (text : List ℕ) × FaultOfRow row old new text (record { stream = stream; kind = kind; time = time }) × (out1 ≡ grown out0 text)
RunsAccepted (Err (stop.CutFault stream kind time)) row old new out0 out1 = (text : List ℕ) × FaultOfRow row old new text (record { stream = stream; kind = kind; time = time }) × PutBroke out0 out1 text
RunsAccepted (Err stop.Put) row old new out0 out1 = (text : List ℕ) × RanRow row old new text × PutBroke out0 out1 text
RunsAccepted (Err stop.Memory) row old new out0 out1 = (text : List ℕ) × (AcceptsRow (Err engine_end.Memory) row old new text ⊎ HasText row old new text) × (out1 ≡ out0)

-- how an engine's end stops a run: the lines before a fault are put first
abbrev pub StopsAt : EngineEnd → Stop → List ℕ → SinkState → SinkState → Type 0
StopsAt (engine_end.Fault stream kind time) end text out0 out1 =
    ((end ≡ stop.Fault stream kind time) × (out1 ≡ grown out0 text)) ⊎ (((end ≡ stop.CutFault stream kind time) × PutBroke out0 out1 text) ⊎ ((end ≡ stop.Memory) × (out1 ≡ out0)))
StopsAt engine_end.Memory end text out0 out1 = (end ≡ stop.Memory) × (out1 ≡ out0)

-- their step has a fault
pub record ClosedByFault (fault : RunFault) (journal : List Entry) (old : Keeping) (out0 out1 : SinkState) : Type 0 where
  pub is_fault : fault_in (setting_in old) journal ≡ Some fault
  pub completes : Completes old.state journal []
  pub out : out1 ≡ out0

-- their lines were cut short, and their step has no fault
pub record CutClose (journal : List Entry) (old : Keeping) (out0 out1 : SinkState) : Type 0 where
  pub fine : fault_in (setting_in old) journal ≡ None
  pub lines : List (List ℕ)
  pub completes : Completes old.state journal lines
  pub out : PutBroke out0 out1 (text_of lines)

-- bytes were put to a sink
abbrev pub Puts : Result (Unit {0}) Stop → List ℕ → SinkState → SinkState → Type 0
Puts (Ok done) bytes old new = new ≡ grown old bytes
Puts (Err (stop.Fault stream kind time)) bytes old new = ⊥
Puts (Err (stop.CutFault stream kind time)) bytes old new = ⊥
Puts (Err stop.Put) bytes old new = PutBroke old new bytes
Puts (Err stop.Memory) bytes old new = new ≡ old

-- a sink received some text, and no put to it failed
abbrev pub Received : SinkState → SinkState → Type 0
Received old new = (text : List ℕ) × (new ≡ grown old text)

-- what the sink and the trace have of what ended so, whatever journal the run stood for: some text, or a put failed
abbrev pub Writes : Result (Unit {0}) Stop → SinkState → SinkState → SinkState → SinkState → Type 0
Writes (Ok done) out0 out1 trace0 trace1 = Received out0 out1 × Received trace0 trace1
Writes (Err (stop.Fault stream kind time)) out0 out1 trace0 trace1 = Received out0 out1 × Received trace0 trace1
Writes (Err (stop.CutFault stream kind time)) out0 out1 trace0 trace1 = Rose out0.count out1.count × Received trace0 trace1
Writes (Err stop.Put) out0 out1 trace0 trace1 = Rose out0.count out1.count ⊎ Rose trace0.count trace1.count
Writes (Err stop.Memory) out0 out1 trace0 trace1 = Received out0 out1 × Received trace0 trace1

-- what a failed put or want of memory makes of a run
abbrev pub stop_of : PutEnd → Stop
stop_of put.Failed = stop.Put
stop_of put.Memory = stop.Memory

-- the trace line of an entry was not put whole, and the entry was not run
pub record WasNotTraced (result : Result (Unit {0}) Stop) (entry : Entry) (old new : Keeping) (out0 out1 trace0 trace1 : SinkState) : Type 0 where
  pub how : Stop
  pub is : result ≡ Err how
  pub puts : Puts (Err how) (trace_line entry) trace0 trace1
  pub kept : new ≡ old
  pub out : out1 ≡ out0
