-- Runs that go on behind a journal that other runs had taken: what their calls do, and how their rows end.
use Rattle.std.specs.Prelude.{Bool, true, ℕ, ◌≡◌, ◌⊎◌, ◌+◌, ◌≤◌, List, [], ◌∷◌, ◌++◌, None, Some, Result, Ok, Err, drop, length}
use Rattle.lola_port.specs.States.{PutBroke, SinkState, grown}
use Rattle.lola_model.specs.Journal.{IsLegal, accepted, time_after}
use Rattle.lola_model.specs.Faults.{RunFault}
use Rattle.lola_model.specs.Runs.{final_lines, settled_lines, settled_model, whole_model}
use Rattle.lola_model.specs.Texts.{text_of}
use Rattle.lola_model.specs.Trace.{IsTraceable, trace_line}
use Rattle.lola_model.specs.declared.journal.Row.{Row}
use Rattle.lola_model.specs.declared.journal.Entry.{Entry}
use Rattle.lola_model.specs.declared.journal.Mark.TheVariants as mark
use Rattle.lola_instances.specs.Stores.{bounded_remembers, bounded_seen}
use Rattle.lola_engine.specs.Behind.{StandsBehind}
use Rattle.lola_engine.specs.Engines.{Brings, Completes}
use Rattle.lola_monitor_run.specs.Verdicts.{AreOfSources, AreTraceable, IsCutInLine, Setting, fault_in, late_count, settled_fault_in}
use Rattle.lola_monitor_run.specs.Running.{ClosedByFault, CutClose, CutFaultNext, CutNext, FaultNext, IsAccepted, IsGoing, IsSetAs, Keeping, KeptNext, WasNotTraced, setting_in}
use Rattle.lola_monitor_run.specs.Feeds.{AreFed, AreTraced, GoInRounds, HaveBegun, HaveEnded, World}
use Rattle.lola_monitor_run.specs.declared.stop.Stop.{Stop}
use Rattle.lola_monitor_run.specs.declared.stop.Stop.TheVariants as stop

-- other runs had taken a front of a journal, and this one what came since: no step so far has a fault
pub record IsBehind (before journal : List Entry) (kept : Keeping) : Type 0 where
  pub legal : IsLegal kept.state.given_start journal
  pub engine : StandsBehind kept.state (bounded_seen kept.store) (bounded_remembers kept.store) before journal

-- a run goes on, and has counted no entry of its own
pub record HasTakenNone (kept : Keeping) : Type 0 where
  pub going : IsGoing kept
  pub accepted : kept.accepted ≡ 0
  pub late : kept.late ≡ 0
  pub rows : kept.state.rows ≤ 1

-- a run goes on behind an entry: it is counted, and the merged time is that after it
pub record HasTaken (entry : Entry) (old new : Keeping) : Type 0 where
  pub going : IsGoing new
  pub merged : new.state.merged ≡ time_after old.state.merged entry
  pub rows : new.state.rows ≡ old.state.rows + length (accepted (entry ∷ []))
  pub late : new.late ≡ old.late + late_count (entry ∷ [])
  pub accepted : new.accepted ≡ old.accepted + length (accepted (entry ∷ []))

-- an entry was run without a fault: the run stands for one entry more
pub record NextBehind (before journal : List Entry) (entry : Entry) (old new : Keeping) (out0 out1 : SinkState) : Type 0 where
  pub stands : IsBehind before (journal ++ entry ∷ []) new
  pub lines : List (List ℕ)
  pub brings : Brings old.state journal entry lines
  pub out : out1 ≡ grown out0 (text_of lines)

-- an entry was run, or its fault was met, or its lines were not put, whatever journal the run stands for and whatever front of it others had
-- taken
abbrev pub Takes : Result (Unit {0}) Stop → Entry → Keeping → Keeping → SinkState → SinkState → Type 0
Takes (Ok done) entry old new out0 out1 = (before journal : List Entry) → IsBehind before journal old → NextBehind before journal entry old new out0 out1
Takes (Err (stop.Fault stream kind time)) entry old new out0 out1 =
    ((before journal : List Entry) → IsBehind before journal old → FaultNext (record { stream = stream; kind = kind; time = time }) journal entry old out0 out1) × IsAccepted entry
Takes (Err (stop.CutFault stream kind time)) entry old new out0 out1 =
    ((before journal : List Entry) → IsBehind before journal old → CutFaultNext (record { stream = stream; kind = kind; time = time }) journal entry old out0 out1) × IsAccepted entry
Takes (Err stop.Put) entry old new out0 out1 = ((before journal : List Entry) → IsBehind before journal old → CutNext journal entry old out0 out1) × IsAccepted entry
Takes (Err stop.Memory) entry old new out0 out1 = (before journal : List Entry) → IsBehind before journal old → KeptNext journal entry old out0 out1

-- the line of an entry was put, and the entry was run
pub record WasTraced (result : Result (Unit {0}) Stop) (entry : Entry) (old new : Keeping) (out0 out1 trace0 trace1 : SinkState) : Type 0 where
  pub trace : trace1 ≡ grown trace0 (trace_line entry)
  pub takes : Takes result entry old new out0 out1

-- what becomes of an entry that is to be traced and run; a line can tell it
pub record Enters (result : Result (Unit {0}) Stop) (entry : Entry) (old new : Keeping) (out0 out1 trace0 trace1 : SinkState) : Type 0 where
  pub told : IsTraceable old.state.plan entry
  pub does : WasNotTraced result entry old new out0 out1 trace0 trace1 ⊎ WasTraced result entry old new out0 out1 trace0 trace1

-- the deadlines at the last stamp were run: all behind the front is counted, and their lines put
pub record ClosedBehind (before journal : List Entry) (old new : Keeping) (out0 out1 : SinkState) : Type 0 where
  pub fine : fault_in (setting_in old) journal ≡ None
  pub lines : List (List ℕ)
  pub completes : Completes old.state journal lines
  pub out : out1 ≡ grown out0 (text_of lines)
  pub steps : length (settled_model old.state.plan old.state.given_start before) + new.state.steps ≡ length (whole_model old.state.plan old.state.given_start journal)
  pub accepted : new.accepted ≡ old.accepted
  pub late : new.late ≡ old.late
  pub counted : length (settled_lines old.state.plan old.state.given_start before old.state.show) + new.state.lines ≡ length (final_lines old.state.plan old.state.given_start journal old.state.show)

-- what is run at the end of a run's rows, whatever journal the run stands for and whatever front of it others had taken
abbrev pub Closes : Result (Unit {0}) Stop → Keeping → Keeping → SinkState → SinkState → Type 0
Closes (Ok done) old new out0 out1 = (before journal : List Entry) → IsBehind before journal old → ClosedBehind before journal old new out0 out1
Closes (Err (stop.Fault stream kind time)) old new out0 out1 =
    (before journal : List Entry) → IsBehind before journal old → ClosedByFault (record { stream = stream; kind = kind; time = time }) journal old out0 out1
Closes (Err (stop.CutFault stream kind time)) old new out0 out1 = (before journal : List Entry) → IsBehind before journal old → ⊥
Closes (Err stop.Put) old new out0 out1 = (before journal : List Entry) → IsBehind before journal old → CutClose journal old out0 out1
Closes (Err stop.Memory) old new out0 out1 = out1 ≡ out0

-- the text of lines without those that the front of a journal has settled
abbrev pub text_behind : Setting → List Entry → List (List ℕ) → List ℕ
text_behind s before lines = text_of (drop (length (settled_lines s.plan s.start before s.show)) lines)

-- the settled verdicts of a journal behind those of its front
abbrev pub settled_behind : Setting → List Entry → List Entry → List ℕ
settled_behind s before journal = text_behind s before (settled_lines s.plan s.start (before ++ journal) s.show)

-- all verdicts of a journal behind the settled ones of its front
abbrev pub verdicts_behind : Setting → List Entry → List Entry → List ℕ
verdicts_behind s before journal = text_behind s before (final_lines s.plan s.start (before ++ journal) s.show)

-- a journal ends with the row at whose step, or at a deadline before it, the settled steps of front and journal first have this fault
pub record IsRowFaultBehind (s : Setting) (before journal : List Entry) (fault : RunFault) : Type 0 where
  pub front : List Entry
  pub row : Row
  pub whole : journal ≡ front ++ record { row = row; mark = mark.Accepted } ∷ []
  pub none_before : settled_fault_in s (before ++ front) ≡ None
  pub settled : settled_fault_in s (before ++ journal) ≡ Some fault

-- the sink received the verdicts of all entries of a journal but the last and then, a put having failed, a proper part of those that
-- the last brings, an accepted row
pub record IsCutAtRowBehind (s : Setting) (before : List Entry) (old new : SinkState) (journal : List Entry) : Type 0 where
  pub front : List Entry
  pub row : Row
  pub whole : journal ≡ front ++ record { row = row; mark = mark.Accepted } ∷ []
  pub brings : List ℕ
  pub joined : settled_behind s before journal ≡ settled_behind s before front ++ brings
  pub more : List ℕ
  pub all : verdicts_behind s before journal ≡ settled_behind s before journal ++ more
  pub cut : PutBroke (grown old (settled_behind s before front)) new brings

-- the sink received all settled verdicts of a journal and then, a put having failed, a proper part of those of the deadlines at the
-- last stamp
pub record IsCutAtDeadlineBehind (s : Setting) (before : List Entry) (old new : SinkState) (journal : List Entry) : Type 0 where
  pub brings : List ℕ
  pub joined : verdicts_behind s before journal ≡ settled_behind s before journal ++ brings
  pub cut : PutBroke (grown old (settled_behind s before journal)) new brings

-- the sink received a front of the verdicts of a journal and nothing else: the settled ones of all entries, or of all but the last
pub record HasFrontBehind (s : Setting) (before : List Entry) (old new : SinkState) (journal : List Entry) : Type 0 where
  pub front : List Entry
  pub last : List Entry
  pub whole : journal ≡ front ++ last
  pub few : length last ≤ 1
  pub more : List ℕ
  pub joined : verdicts_behind s before journal ≡ settled_behind s before front ++ more
  pub put : new ≡ grown old (settled_behind s before front)

-- where a run came to: the rows that came since, in rounds where its sources are read in turns
pub record CameBehind (in_turns : Bool) (before : List Entry) (first last : World) : Type 0 where
  pub journal : List Entry
  pub legal : IsLegal first.kept.state.given_start (before ++ journal)
  pub sources : AreOfSources (length first.sources) journal
  pub traceable : AreTraceable first.kept.state.plan journal
  pub rounds : in_turns ≡ true → GoInRounds first.sources last.sources journal

-- a run to the end of its sources, each of which may have failed: it stands for front and journal
pub record RanToEndBehind (in_turns : Bool) (before : List Entry) (first last : World) : Type 0 where
  pub came : CameBehind in_turns before first last
  pub setting : IsSetAs first.kept last.kept
  pub fed : AreFed first.sources last.sources came.journal
  pub ended : HaveEnded last.sources
  pub trace : AreTraced first last came.journal
  pub out : last.out ≡ grown first.out (settled_behind (setting_in first.kept) before came.journal)
  pub stands : IsBehind before (before ++ came.journal) last.kept
  pub accepted : last.kept.accepted ≡ length (accepted came.journal)
  pub late : last.kept.late ≡ late_count came.journal

-- a run to the first fault of a row
pub record RanToFaultBehind (in_turns : Bool) (before : List Entry) (fault : RunFault) (first last : World) : Type 0 where
  pub came : CameBehind in_turns before first last
  pub begun : HaveBegun first.sources came.journal
  pub trace : AreTraced first last came.journal
  pub out : last.out ≡ grown first.out (settled_behind (setting_in first.kept) before came.journal)
  pub stands : IsRowFaultBehind (setting_in first.kept) before came.journal fault

-- a run to the first fault of a row, before whose line a put failed: a proper part of the verdicts was put
pub record RanToCutFaultBehind (in_turns : Bool) (before : List Entry) (fault : RunFault) (first last : World) : Type 0 where
  pub came : CameBehind in_turns before first last
  pub begun : HaveBegun first.sources came.journal
  pub trace : AreTraced first last came.journal
  pub out : PutBroke first.out last.out (settled_behind (setting_in first.kept) before came.journal)
  pub stands : IsRowFaultBehind (setting_in first.kept) before came.journal fault

-- a run without a fault to a row whose trace line was cut short: the verdicts of all rows before it were put
pub record RanToTraceCutBehind (in_turns : Bool) (before : List Entry) (first last : World) : Type 0 where
  pub came : CameBehind in_turns before first last
  pub begun : HaveBegun first.sources came.journal
  pub no_fault : settled_fault_in (setting_in first.kept) (before ++ came.journal) ≡ None
  pub trace : IsCutInLine first.kept.state.plan first.trace last.trace came.journal
  pub out : last.out ≡ grown first.out (settled_behind (setting_in first.kept) before came.journal)

-- a run without a fault to a row that was traced, and whose verdicts were cut short
pub record RanToRowCutBehind (in_turns : Bool) (before : List Entry) (first last : World) : Type 0 where
  pub came : CameBehind in_turns before first last
  pub begun : HaveBegun first.sources came.journal
  pub no_fault : settled_fault_in (setting_in first.kept) (before ++ came.journal) ≡ None
  pub trace : AreTraced first last came.journal
  pub out : IsCutAtRowBehind (setting_in first.kept) before first.out last.out came.journal

-- a run that a failed put cut short
abbrev pub RanToFailedPutBehind : Bool → List Entry → World → World → Type 0
RanToFailedPutBehind in_turns before first last = RanToTraceCutBehind in_turns before first last ⊎ RanToRowCutBehind in_turns before first last

-- a run that ended for want of memory: all its rows were traced, and a front of their verdicts was put
pub record RanOutOfMemoryBehind (in_turns : Bool) (before : List Entry) (first last : World) : Type 0 where
  pub came : CameBehind in_turns before first last
  pub begun : HaveBegun first.sources came.journal
  pub trace : AreTraced first last came.journal
  pub out : HasFrontBehind (setting_in first.kept) before first.out last.out came.journal

-- all rows of a run
abbrev pub RunsBehind : Bool → List Entry → Result (Unit {0}) Stop → World → World → Type 0
RunsBehind in_turns before (Ok done) first last = RanToEndBehind in_turns before first last
RunsBehind in_turns before (Err (stop.Fault stream kind time)) first last = RanToFaultBehind in_turns before (record { stream = stream; kind = kind; time = time }) first last
RunsBehind in_turns before (Err (stop.CutFault stream kind time)) first last = RanToCutFaultBehind in_turns before (record { stream = stream; kind = kind; time = time }) first last
RunsBehind in_turns before (Err stop.Put) first last = RanToFailedPutBehind in_turns before first last
RunsBehind in_turns before (Err stop.Memory) first last = RanOutOfMemoryBehind in_turns before first last

-- a whole run, with the deadlines at the last stamp, which may be the front's: all verdicts were put
pub record ThroughBehind (in_turns : Bool) (before : List Entry) (first last : World) : Type 0 where
  pub came : CameBehind in_turns before first last
  pub begun : HaveBegun first.sources came.journal
  pub trace : AreTraced first last came.journal
  pub out : last.out ≡ grown first.out (verdicts_behind (setting_in first.kept) before came.journal)

-- a whole run without a fault, to the end of its sources. Steps and lines are counted behind those that the front has settled
pub record ThroughWellBehind (in_turns : Bool) (before : List Entry) (first last : World) : Type 0 where
  pub through : ThroughBehind in_turns before first last
  pub fed : AreFed first.sources last.sources through.came.journal
  pub ended : HaveEnded last.sources
  pub no_fault : fault_in (setting_in first.kept) (before ++ through.came.journal) ≡ None
  pub settled : settled_fault_in (setting_in first.kept) (before ++ through.came.journal) ≡ None
  pub steps : length (settled_model first.kept.state.plan first.kept.state.given_start before) + last.kept.state.steps
      ≡ length (whole_model first.kept.state.plan first.kept.state.given_start (before ++ through.came.journal))
  pub accepted : last.kept.accepted ≡ length (accepted through.came.journal)
  pub late : last.kept.late ≡ late_count through.came.journal
  pub lines : length (settled_lines first.kept.state.plan first.kept.state.given_start before first.kept.state.show) + last.kept.state.lines
      ≡ length (final_lines first.kept.state.plan first.kept.state.given_start (before ++ through.came.journal) first.kept.state.show)

-- the deadline at the last stamp has the fault, and all sources have ended
pub record IsAtDeadlineBehind (before journal : List Entry) (first last : World) : Type 0 where
  pub settled : settled_fault_in (setting_in first.kept) (before ++ journal) ≡ None
  pub fed : AreFed first.sources last.sources journal
  pub ended : HaveEnded last.sources

-- a whole run, to its first fault: that of its last row, or of the deadline at the last stamp
pub record EndedByFaultBehind (in_turns : Bool) (before : List Entry) (fault : RunFault) (first last : World) : Type 0 where
  pub through : ThroughBehind in_turns before first last
  pub is_fault : fault_in (setting_in first.kept) (before ++ through.came.journal) ≡ Some fault
  pub place : IsRowFaultBehind (setting_in first.kept) before through.came.journal fault ⊎ IsAtDeadlineBehind before through.came.journal first last

-- a run to the first fault, before whose line a put failed: a proper part of all verdicts was put
pub record EndedByCutFaultBehind (in_turns : Bool) (before : List Entry) (fault : RunFault) (first last : World) : Type 0 where
  pub came : CameBehind in_turns before first last
  pub begun : HaveBegun first.sources came.journal
  pub trace : AreTraced first last came.journal
  pub out : PutBroke first.out last.out (verdicts_behind (setting_in first.kept) before came.journal)
  pub is_fault : fault_in (setting_in first.kept) (before ++ came.journal) ≡ Some fault
  pub place : IsRowFaultBehind (setting_in first.kept) before came.journal fault

-- a whole run without a fault, where the verdicts of the deadlines at the last stamp were cut short
pub record ThroughCutBehind (in_turns : Bool) (before : List Entry) (first last : World) : Type 0 where
  pub came : CameBehind in_turns before first last
  pub begun : HaveBegun first.sources came.journal
  pub no_fault : fault_in (setting_in first.kept) (before ++ came.journal) ≡ None
  pub place : IsAtDeadlineBehind before came.journal first last
  pub trace : AreTraced first last came.journal
  pub out : IsCutAtDeadlineBehind (setting_in first.kept) before first.out last.out came.journal

-- how a whole run ends that went on behind a journal which others had taken
abbrev pub EndsBehind : Bool → List Entry → Result (Unit {0}) Stop → World → World → Type 0
EndsBehind in_turns before (Ok done) first last = ThroughWellBehind in_turns before first last
EndsBehind in_turns before (Err (stop.Fault stream kind time)) first last = EndedByFaultBehind in_turns before (record { stream = stream; kind = kind; time = time }) first last
EndsBehind in_turns before (Err (stop.CutFault stream kind time)) first last = EndedByCutFaultBehind in_turns before (record { stream = stream; kind = kind; time = time }) first last
EndsBehind in_turns before (Err stop.Put) first last = RanToFailedPutBehind in_turns before first last ⊎ ThroughCutBehind in_turns before first last
EndsBehind in_turns before (Err stop.Memory) first last = RanOutOfMemoryBehind in_turns before first last
