-- What the parts of a snapshot leave, before its last line.
use Rattle.std.specs.Prelude.{◌≡◌, ◌⊎◌, ℕ, ◌<◌, ◌≤◌, true, false, List, [], ◌++◌, length, map, slice_get, Option, None, Some, Result, Ok, Err}
use Rattle.lola_port.specs.States.{Rose, ShelfState, SinkState}
use Rattle.lola_port.specs.declared.traits.Ask.{Ask}
use Rattle.lola_model.specs.Faults.{RunFault}
use Rattle.lola_model.specs.Journal.{accepted, known_start, rows_of}
use Rattle.lola_model.specs.Runs.{settled_model}
use Rattle.lola_model.specs.declared.journal.Entry.{Entry}
use Rattle.lola_model.specs.declared.plan.Plan.{Plan}
use Rattle.lola_rows.specs.Rows.{SourceEnd, Whole}
use Rattle.lola_report.specs.declared.end.EndLine.{EndLine}
use Rattle.lola_report.specs.declared.end.EndLine.TheVariants.{Done, Usage, Refused, Malformed, Fault, UnreadableSpecification, UnreadableSource, Analysed}
use Rattle.lola_save.specs.declared.end.StateEnd.{StateEnd}
use Rattle.lola_save.specs.declared.end.StateEnd.TheVariants as state_end
use Rattle.lola_save_text.specs.JournalStates.{state_of}
use Rattle.lola_save_text.specs.Damage.{IsStateText}
use Rattle.lola_save_text.specs.Fitting.{most_steps}
use Rattle.lola_save_text.specs.Lines.{state_text}
use Rattle.lola_monitor_run.specs.Behind.{IsBehind, IsRowFaultBehind}
use Rattle.lola_monitor_run.specs.Running.{Keeping, setting_in}
use Rattle.lola_monitor_run.specs.Verdicts.{Setting, settled_fault_in}
use Rattle.lola_monitor_run.specs.declared.stop.Stop.{Stop}
use Rattle.lola_monitor_run.specs.declared.stop.Stop.TheVariants as stop
use Rattle.lola_monitor.specs.Causes.{AllHome, Causes, SourcesMalformed, SourcesUnread, SourcesWell}
use Rattle.lola_monitor.specs.Command.{SnapshotNames}
use Rattle.lola_monitor.specs.LongStates.{IsLongState, IsNearMost, counted}
use Rattle.lola_monitor.specs.Monitor.{AllEnd, AllRead, AreGiven, Ends, MalformedSource, Outside, Plans, WereGiven, fault_line, first_failed_ask, first_malformed, outside}
use Rattle.lola_monitor.specs.Outcomes.{AreUntouched, CameHome, Grew, OutcomeAfter, ReadPlan, SourcesRun}
use Rattle.lola_monitor.specs.Pasts.{AreAllRows, AreRowsBeforeMalformed, AreRowsOfOthers, RanBehind, malformed_line}
use Rattle.lola_monitor.specs.Refusals.{StoodRefused, StoodStateRefused, StoodUnread}
use Rattle.lola_monitor.specs.Replaying.{IsText}
use Rattle.lola_monitor.specs.Snapshots.{IsPast, inputs_of, saved_text, steps_setting}
use Rattle.lola_monitor.specs.declared.ending.SourcesEnd.{SourcesEnd}
use Rattle.lola_monitor.specs.declared.ending.SourcesEnd.TheVariants as sources_end
use Rattle.lola_monitor.specs.declared.call_end.CallEnd.{CallEnd}
use Rattle.lola_monitor.specs.declared.call_end.CallEnd.TheVariants.{Line, Drilled, Report, Replayed, Stated, CutFault, Put, Memory}

-- ---- the rows of sources

-- a sink that nobody reads, no put to which fails
abbrev pub nowhere : SinkState
nowhere = record { written = None; count = 0 }

abbrev pub steps_of : Setting → List Entry → ℕ
steps_of s journal = length (settled_model s.plan s.start journal)

-- the state of whatever journal a run stands for was written, or it has too many steps; its own count says so too, journal or not
abbrev pub SavesState : CallEnd → List ℕ → Keeping → Type 0
SavesState (Line line) specification kept = ⊥
SavesState (Drilled line) specification kept = ⊥
SavesState (Report text) specification kept =
    (counted kept ≤ most_steps)
    × ((before journal : List Entry) → IsBehind before journal kept
    → (steps_of (setting_in kept) journal ≤ most_steps) × (text ≡ state_text specification kept.state.plan (state_of kept.state.plan kept.state.given_start journal)))
SavesState (Replayed end) specification kept = ⊥
SavesState (Stated state_end.Unreadable) specification kept = ⊥
SavesState (Stated (state_end.Damaged line)) specification kept = ⊥
SavesState (Stated state_end.OtherSpecification) specification kept = ⊥
SavesState (Stated state_end.TooManySteps) specification kept =
    (most_steps < counted kept) × ((before journal : List Entry) → IsBehind before journal kept → most_steps < steps_of (setting_in kept) journal)
SavesState CutFault specification kept = ⊥
SavesState Put specification kept = ⊥
SavesState Memory specification kept = Unit {0}

-- what the end of its rows makes of a snapshot
abbrev pub EndsAfter : Result (Unit {0}) Stop → SourcesEnd → List ℕ → Keeping → CallEnd → Type 0
EndsAfter (Ok done) sources_end.Whole specification kept outcome = SavesState outcome specification kept
EndsAfter (Ok done) (sources_end.ReadFailed at) specification kept outcome = outcome ≡ Line (UnreadableSource at)
EndsAfter (Ok done) (sources_end.Malformed source row kind) specification kept outcome = outcome ≡ Line (Malformed source row kind)
EndsAfter (Err how) end specification kept outcome = OutcomeAfter (Err how) end kept.state.plan kept outcome

-- rows were taken of sources that all came back
pub record RowsTaken (front : List Entry) (s : Setting) (names : List (List ℕ)) (before after : ShelfState) : Type 0 where
  pub run : SourcesRun front true s names before after
  pub asks : List Ask
  pub home : CameHome names asks before after

-- of sources none of which has failed: no settled step has a fault
pub record RowsEnded (front : List Entry) (s : Setting) (names : List (List ℕ)) (before after : ShelfState) : Type 0 where
  pub taken : RowsTaken front s names before after
  pub all : AllHome names before after
  pub no_fault : settled_fault_in s (front ++ taken.run.journal) ≡ None

-- each of them ends well
pub record WholeRows (front : List Entry) (s : Setting) (names : List (List ℕ)) (before after : ShelfState) : Type 0 where
  pub ended : RowsEnded front s names before after
  pub rows : (n : ℕ) (name : List ℕ) → slice_get names n ≡ Some name → Ends (before.told name) s.plan n (rows_of n ended.taken.run.journal) Whole

-- and the run stands for them
pub record StandingRows (front : List Entry) (s : Setting) (kept : Keeping) (names : List (List ℕ)) (before after : ShelfState) : Type 0 where
  pub whole : WholeRows front s names before after
  pub stands : IsBehind front (front ++ whole.ended.taken.run.journal) kept

-- and this is the text of the state
pub record SavedRows (text specification : List ℕ) (front : List Entry) (s : Setting) (names : List (List ℕ)) (before after : ShelfState) : Type 0 where
  pub whole : WholeRows front s names before after
  pub few : steps_of s (front ++ whole.ended.taken.run.journal) ≤ most_steps
  pub text_is : text ≡ state_text specification s.plan (state_of s.plan s.start (front ++ whole.ended.taken.run.journal))

-- or there are too many steps
pub record LongRows (front : List Entry) (s : Setting) (names : List (List ℕ)) (before after : ShelfState) : Type 0 where
  pub whole : WholeRows front s names before after
  pub many : most_steps < steps_of s (front ++ whole.ended.taken.run.journal)

-- the least of them that has a malformed line is named
pub record MalformedRows (line : EndLine) (front : List Entry) (s : Setting) (names : List (List ℕ)) (before after : ShelfState) : Type 0 where
  pub ended : RowsEnded front s names before after
  pub ends : List SourceEnd
  pub rows : AllEnd before s.plan names ended.taken.run.journal ends
  pub at : MalformedSource
  pub least : first_malformed ends ≡ Some at
  pub line_is : line ≡ malformed_line at

-- rows were taken up to the first fault
pub record FaultRows (line : EndLine) (front : List Entry) (s : Setting) (names : List (List ℕ)) (before after : ShelfState) : Type 0 where
  pub taken : RowsTaken front s names before after
  pub fault : RunFault
  pub stands : IsRowFaultBehind s front taken.run.journal fault
  pub line_is : line ≡ fault_line s.plan fault

-- a source was not given, and no row was taken; or some could not be read to their ends
pub record CutRows (line : EndLine) (front : List Entry) (s : Setting) (names : List (List ℕ)) (before after : ShelfState) : Type 0 where
  pub run : SourcesRun front true s names before after
  pub no_fault : settled_fault_in s (front ++ run.journal) ≡ None
  pub asked : Grew names before after
  pub home : (run.journal ≡ []) ⊎ CameHome names asked.asks before after
  pub at : ℕ
  pub least : first_failed_ask asked.asks ≡ Some at
  pub rose : Rose before.count after.count
  pub unless_given : (n : ℕ) (ask : Ask) → slice_get asked.asks n ≡ Some ask → ask.given ≡ false → run.journal ≡ []
  pub read : AreGiven asked.asks → (map (λ ask. ask.name) asked.asks ≡ names) × AllRead before s.plan names asked.asks run.journal
  pub line_is : line ≡ UnreadableSource at

-- what rows that were taken come to, behind a journal
abbrev pub RowsEnd : CallEnd → List ℕ → List Entry → Setting → List (List ℕ) → ShelfState → ShelfState → Type 0
RowsEnd (Line (Done a l n v)) specification front s names before after = ⊥
RowsEnd (Line (Malformed n row kind)) specification front s names before after = MalformedRows (Malformed n row kind) front s names before after
RowsEnd (Line (Fault stream kind time)) specification front s names before after = FaultRows (Fault stream kind time) front s names before after
RowsEnd (Line (UnreadableSource n)) specification front s names before after = CutRows (UnreadableSource n) front s names before after
RowsEnd (Line Usage) specification front s names before after = ⊥
RowsEnd (Line (Refused r)) specification front s names before after = ⊥
RowsEnd (Line UnreadableSpecification) specification front s names before after = ⊥
RowsEnd (Line (Analysed n w)) specification front s names before after = ⊥
RowsEnd (Drilled line) specification front s names before after = ⊥
RowsEnd (Report text) specification front s names before after = SavedRows text specification front s names before after
RowsEnd (Replayed end) specification front s names before after = ⊥
RowsEnd (Stated state_end.Unreadable) specification front s names before after = ⊥
RowsEnd (Stated (state_end.Damaged line)) specification front s names before after = ⊥
RowsEnd (Stated state_end.OtherSpecification) specification front s names before after = ⊥
RowsEnd (Stated state_end.TooManySteps) specification front s names before after = LongRows front s names before after
RowsEnd CutFault specification front s names before after = ⊥
RowsEnd Put specification front s names before after = ⊥
RowsEnd Memory specification front s names before after = Unit {0}

-- a snapshot's rows end so, whatever journal there is
abbrev pub IsEndOfRows : CallEnd → Type 0
IsEndOfRows (Line (Done a l n v)) = ⊥
IsEndOfRows (Line (Malformed n row kind)) = Unit {0}
IsEndOfRows (Line (Fault stream kind time)) = Unit {0}
IsEndOfRows (Line (UnreadableSource n)) = Unit {0}
IsEndOfRows (Line Usage) = ⊥
IsEndOfRows (Line (Refused r)) = ⊥
IsEndOfRows (Line UnreadableSpecification) = ⊥
IsEndOfRows (Line (Analysed n w)) = ⊥
IsEndOfRows (Drilled line) = ⊥
IsEndOfRows (Report text) = Unit {0}
IsEndOfRows (Replayed end) = ⊥
IsEndOfRows (Stated state_end.Unreadable) = ⊥
IsEndOfRows (Stated (state_end.Damaged line)) = ⊥
IsEndOfRows (Stated state_end.OtherSpecification) = ⊥
IsEndOfRows (Stated state_end.TooManySteps) = Unit {0}
IsEndOfRows CutFault = Unit {0}
IsEndOfRows Put = Unit {0}
IsEndOfRows Memory = Unit {0}

-- there are too many steps only where the run began with nearly as many as a state can have
abbrev pub IsLongRun : CallEnd → Keeping → Type 0
IsLongRun (Stated state_end.TooManySteps) kept = IsNearMost kept.state.behind
IsLongRun outcome kept = Unit {0}

-- the rows of sources, behind whatever journal the run stands for
pub record RunsRows (outcome : CallEnd) (specification : List ℕ) (kept : Keeping) (names : List (List ℕ)) (before after : ShelfState) : Type 0 where
  pub asked : Grew names before after
  pub is_end : IsEndOfRows outcome
  pub long : IsLongRun outcome kept
  pub behind : (front : List Entry) → IsBehind front front kept → RowsEnd outcome specification front (setting_in kept) names before after

-- how rows that were taken have ended, behind a journal; no put of theirs fails
abbrev pub StopsRows : Result (Unit {0}) Stop → SourcesEnd → List Entry → Setting → Keeping → List (List ℕ) → ShelfState → ShelfState → Type 0
StopsRows (Ok done) sources_end.Whole front s kept names before after = StandingRows front s kept names before after
StopsRows (Ok done) (sources_end.ReadFailed at) front s kept names before after = CutRows (UnreadableSource at) front s names before after
StopsRows (Ok done) (sources_end.Malformed source row kind) front s kept names before after = MalformedRows (Malformed source row kind) front s names before after
StopsRows (Err (stop.Fault stream kind time)) end front s kept names before after =
    FaultRows (fault_line s.plan (record { stream = stream; kind = kind; time = time })) front s names before after
StopsRows (Err (stop.CutFault stream kind time)) end front s kept names before after = ⊥
StopsRows (Err stop.Put) end front s kept names before after = ⊥
StopsRows (Err stop.Memory) end front s kept names before after = Unit {0}

-- the rows of sources that were lent were taken, behind whatever journal the run stood for, and the sources came back
pub record TookRows (stopped : Result (Unit {0}) Stop) (end : SourcesEnd) (old new : Keeping) (names : List (List ℕ)) (before after : ShelfState) : Type 0 where
  pub asked : Grew names before after
  pub behind : (front : List Entry) → IsBehind front front old → StopsRows stopped end front (setting_in old) new names before after

-- why they ended so, also where the run stood for no journal
abbrev pub RowsCause : Result (Unit {0}) Stop → SourcesEnd → Plan → List (List ℕ) → ShelfState → ShelfState → Type 0
RowsCause (Ok done) sources_end.Whole plan names before after = SourcesWell plan names (outside before nowhere nowhere) (outside after nowhere nowhere)
RowsCause (Ok done) (sources_end.ReadFailed at) plan names before after = SourcesUnread (UnreadableSource at) (outside before nowhere nowhere) (outside after nowhere nowhere)
RowsCause (Ok done) (sources_end.Malformed source row kind) plan names before after =
    SourcesMalformed (Malformed source row kind) plan names (outside before nowhere nowhere) (outside after nowhere nowhere)
RowsCause (Err (stop.Fault stream kind time)) end plan names before after = Unit {0}
RowsCause (Err (stop.CutFault stream kind time)) end plan names before after = ⊥
RowsCause (Err stop.Put) end plan names before after = ⊥
RowsCause (Err stop.Memory) end plan names before after = Unit {0}

-- ---- the whole snapshot

-- a state that it goes on from is one of the plan
abbrev pub HasState : Option (List ℕ) → List ℕ → Plan → ShelfState → Type 0
HasState None specification plan shelf = Unit {0}
HasState (Some state) specification plan shelf = (bytes : List ℕ) → shelf.told state ≡ Some bytes → IsStateText specification plan bytes

-- the specification was read and has a plan, and a state that it goes on from was read
pub record Prepared (names : SnapshotNames) (shelf : ShelfState) : Type 0 where
  pub text : List ℕ
  pub is_text : IsText (shelf.told names.specification) text
  pub plan : Plan
  pub is_plan : Plans (shelf.told names.specification) plan
  pub state : HasState names.state text plan shelf

-- all rows of sources that end well were taken, and no settled step has a fault
pub record AreSettledRows (names : SnapshotNames) (start : Option ℕ) (front : List Entry) (before after : ShelfState) : Type 0 where
  pub all : AreAllRows (inputs_of names) start front before after
  pub no_fault : settled_fault_in (steps_setting all.run.plan start front) (front ++ all.run.journal) ≡ None

abbrev pub steps_past : (names : SnapshotNames) (start : Option ℕ) (front : List Entry) (before after : ShelfState) → AreSettledRows names start front before after → ℕ
steps_past names start front before after rows = length (settled_model rows.all.run.plan (known_start start (accepted front)) (front ++ rows.all.run.journal))

-- this is the text of their state
pub record SavesRows (text : List ℕ) (names : SnapshotNames) (start : Option ℕ) (front : List Entry) (before after : ShelfState) : Type 0 where
  pub rows : AreSettledRows names start front before after
  pub few : steps_past names start front before after rows ≤ most_steps
  pub text_is : (specification : List ℕ) → before.told names.specification ≡ Some specification → text ≡ saved_text specification rows.all.run.plan start front rows.all.run.journal

-- there are too many steps
pub record AreTooLong (names : SnapshotNames) (start : Option ℕ) (front : List Entry) (before after : ShelfState) : Type 0 where
  pub rows : AreSettledRows names start front before after
  pub many : most_steps < steps_past names start front before after rows

-- some source has a malformed line
pub record HasMalformed (line : EndLine) (names : SnapshotNames) (start : Option ℕ) (front : List Entry) (before after : ShelfState) : Type 0 where
  pub at : MalformedSource
  pub some : AreRowsBeforeMalformed at (inputs_of names) start front before after
  pub no_fault : settled_fault_in (steps_setting some.run.plan start front) (front ++ some.run.journal) ≡ None
  pub line_is : line ≡ malformed_line at

-- the last row that was taken has a fault
pub record HasRowFault (line : EndLine) (names : SnapshotNames) (start : Option ℕ) (front : List Entry) (before after : ShelfState) : Type 0 where
  pub run : RanBehind (inputs_of names) start front before after
  pub given : WereGiven names.sources run.asks before after
  pub fault : RunFault
  pub is_fault : IsRowFaultBehind (steps_setting run.plan start front) front run.journal fault
  pub line_is : line ≡ fault_line run.plan fault

-- a source was not given, or could not be read
pub record IsShort (line : EndLine) (names : SnapshotNames) (start : Option ℕ) (front : List Entry) (before after : ShelfState) : Type 0 where
  pub at : ℕ
  pub others : AreRowsOfOthers at (inputs_of names) start front before after
  pub no_fault : settled_fault_in (steps_setting others.run.plan start front) (front ++ others.run.journal) ≡ None
  pub line_is : line ≡ UnreadableSource at

-- all but what is put at the end: rows were taken, and this came of them, whatever journal it goes on from
pub record StoodSnapshot (P : Option ℕ → List Entry → ShelfState → ShelfState → Type 0) (names : SnapshotNames) (before after : Outside) : Type 0 where
  pub prepared : Prepared names before.shelf
  pub early : AreUntouched before after
  pub behind : (start : Option ℕ) (front : List Entry) → IsPast names before.shelf names.state start front → P start front before.shelf after.shelf

-- no journal was such
abbrev pub NoPast : Option ℕ → List Entry → ShelfState → ShelfState → Type 0
NoPast start front before after = ⊥

-- a state that it goes on from is refused
abbrev pub RefusesState : StateEnd → List ℕ → Option (List ℕ) → Outside → Outside → Type 0
RefusesState end specification None before after = ⊥
RefusesState end specification (Some state) before after = StoodStateRefused end specification state before after

-- all but what is put at the end
abbrev pub WorksSnapshot : CallEnd → SnapshotNames → Outside → Outside → Type 0
WorksSnapshot (Line (Done a l n v)) names before after = ⊥
WorksSnapshot (Line (Malformed n row kind)) names before after = StoodSnapshot (HasMalformed (Malformed n row kind) names) names before after
WorksSnapshot (Line (Fault stream kind time)) names before after = StoodSnapshot (HasRowFault (Fault stream kind time) names) names before after
WorksSnapshot (Line (UnreadableSource n)) names before after = StoodSnapshot (IsShort (UnreadableSource n) names) names before after
WorksSnapshot (Line Usage) names before after = ⊥
WorksSnapshot (Line (Refused r)) names before after = StoodRefused r names.specification before after
WorksSnapshot (Line UnreadableSpecification) names before after = StoodUnread 0 before after
WorksSnapshot (Line (Analysed n w)) names before after = ⊥
WorksSnapshot (Drilled line) names before after = ⊥
WorksSnapshot (Report text) names before after = StoodSnapshot (SavesRows text names) names before after
WorksSnapshot (Replayed end) names before after = ⊥
WorksSnapshot (Stated state_end.Unreadable) names before after = StoodUnread 1 before after
WorksSnapshot (Stated (state_end.Damaged line)) names before after = RefusesState (state_end.Damaged line) names.specification names.state before after
WorksSnapshot (Stated state_end.OtherSpecification) names before after = RefusesState state_end.OtherSpecification names.specification names.state before after
WorksSnapshot (Stated state_end.TooManySteps) names before after = StoodSnapshot (AreTooLong names) names before after × IsLongState names.state before.shelf
WorksSnapshot CutFault names before after = StoodSnapshot NoPast names before after
WorksSnapshot Put names before after = StoodSnapshot NoPast names before after
WorksSnapshot Memory names before after = AreUntouched before after

-- over a specification that was read, whatever the shelf was before
abbrev pub WorksOver : CallEnd → List ℕ → Plan → SnapshotNames → ShelfState → ShelfState → Type 0
WorksOver outcome specification plan names mid after =
    (before : ShelfState) (out trace : SinkState) → ReadPlan plan names.specification before mid → IsText (before.told names.specification) specification
    → WorksSnapshot outcome names (outside before out trace) (outside after out trace)

-- and why
abbrev pub CausesOver : CallEnd → List ℕ → Plan → SnapshotNames → ShelfState → ShelfState → Type 0
CausesOver outcome specification plan names mid after =
    (before : ShelfState) (out trace : SinkState) → ReadPlan plan names.specification before mid → IsText (before.told names.specification) specification
    → Causes outcome (inputs_of names) (outside before out trace) (outside after out trace)
