-- What the parts of the top call leave, before its last line.
use Rattle.std.specs.Prelude.{◌≡◌, ◌⊎◌, ℕ, ◌+◌, ◌<◌, List, [], ◌∷◌, ◌++◌, length, map, slice_get, Bool, true, false, if◌then◌else◌, Option, None, Some, option_map, Result, Ok, Err}
use Rattle.lola_port.specs.Asks.{given_ask}
use Rattle.lola_port.specs.States.{Moved, PutBroke, Rose, ShelfState, SourceState, grown}
use Rattle.lola_port.specs.declared.traits.Ask.{Ask}
use Rattle.lola_value.specs.declared.front.Refusal.{Refusal}
use Rattle.lola_model.specs.Journal.{IsLegal, rows_of}
use Rattle.lola_model.specs.Faults.{RunFault}
use Rattle.lola_model.specs.Trace.{trace_text}
use Rattle.lola_model.specs.declared.plan.Plan.{Plan}
use Rattle.lola_model.specs.declared.journal.Entry.{Entry}
use Rattle.lola_model.specs.Acceptance.{IsAccepted}
use Rattle.lola_front.specs.Front.{IsPlanOf, IsRefusalOf}
use Rattle.lola_monitor_command.specs.Command.{command_of}
use Rattle.lola_rows.specs.Rows.{SourceEnd, Whole, MalformedAt}
use Rattle.lola_report.specs.declared.end.EndLine.{EndLine}
use Rattle.lola_report.specs.declared.end.EndLine.TheVariants.{Done, Usage, Refused, Malformed, Fault, UnreadableSpecification, UnreadableSource, Analysed}
use Rattle.lola_feed.specs.Feeding.{Working}
use Rattle.lola_feed.specs.declared.worker.SourceEnd as worker
use Rattle.lola_feed.specs.declared.worker.SourceEnd.TheVariants as finish
use Rattle.lola_monitor_run.specs.Verdicts.{AreOfSources, AreTraceable, Setting, fault_in, settled_fault_in, verdicts}
use Rattle.lola_monitor_run.specs.Behind.{HasFrontBehind, IsBehind, IsRowFaultBehind, verdicts_behind}
use Rattle.lola_monitor_run.specs.Running.{Keeping, setting_in}
use Rattle.lola_monitor_run.specs.declared.stop.Stop.{Stop}
use Rattle.lola_monitor_run.specs.declared.stop.Stop.TheVariants as stop
use Rattle.lola_feed.specs.declared.sources.FetchStop.{FetchStop}
use Rattle.lola_feed.specs.declared.sources.FetchStop.TheVariants as fetch
use Rattle.lola_monitor.specs.Causes.{AllHome}
use Rattle.lola_monitor.specs.Command.{specification_of}
use Rattle.lola_monitor.specs.Drilling.{DrillsTo, OfDrill}
use Rattle.lola_replay.specs.declared.end.ReplayEnd.{ReplayEnd}
use Rattle.lola_replay.specs.declared.end.ReplayEnd.TheVariants as replayed
use Rattle.lola_replay.specs.declared.finding.Finding.{Finding}
use Rattle.lola_monitor.specs.Replaying.{Replay, Unread}
use Rattle.lola_monitor.specs.Monitor.{AllBegin, AllEnd, AllRead, AllWell, Analysis, AreGiven, CutShort, Ends, GoInTurns, HasItsModels, IsCutOff, IsEarly, IsFault, IsFrontOf, IsRefusedBy, IsUnfinished, MalformedSource, Outside, Plans, SomeMalformed, UpToFault, analysis_text, asks_between, call, fault_line, first_failed_ask, first_malformed, is_failed_ask, setting_of}
use Rattle.lola_monitor.specs.Pasts.{done_line_behind}
use Rattle.lola_monitor.specs.Resumed.{CutsOffBehind}
use Rattle.lola_monitor.specs.declared.ending.SourcesEnd.{SourcesEnd}
use Rattle.lola_monitor.specs.declared.ending.SourcesEnd.TheVariants as sources_end
use Rattle.lola_monitor.specs.declared.call_end.CallEnd.{CallEnd}
use Rattle.lola_monitor.specs.declared.call_end.CallEnd.TheVariants.{Line, Drilled, Report, Replayed, Stated, CutFault, Put, Memory}
use Rattle.lola_monitor.specs.declared.call_end.Unplanned.{Unplanned}
use Rattle.lola_monitor.specs.declared.call_end.Unplanned.TheVariants as unplanned

-- what was read of all bytes: all of them, or more than so many
abbrev pub IsReadFront : ℕ → List ℕ → List ℕ → Type 0
IsReadFront most bytes all = (bytes ≡ all) ⊎ ((most < length bytes) × (rest : List ℕ) × (all ≡ bytes ++ rest))

-- so many bytes were read from a source and appended
pub record AppendsRead (count : ℕ) (before after : List ℕ) (old new : SourceState) : Type 0 where
  pub more : List ℕ
  pub appended : after ≡ before ++ more
  pub count_is : length more ≡ count
  pub moved : Moved old new more

-- the shelf with one ask more, whose source is back and has not failed
abbrev pub noted : ShelfState → List ℕ → ShelfState
noted shelf name = record shelf { asks = shelf.asks ++ given_ask name ∷ [] }

-- one ask more, which has failed
pub record Marred (name : List ℕ) (before after : ShelfState) : Type 0 where
  pub ask : Ask
  pub name_is : ask.name ≡ name
  pub has_failed : is_failed_ask ask ≡ true
  pub asks : after.asks ≡ before.asks ++ ask ∷ []
  pub out : after.out ≡ before.out
  pub told : after.told ≡ before.told
  pub rose : Rose before.count after.count

-- no memory: the name was asked for or not
pub record Stopped (name : List ℕ) (before after : ShelfState) : Type 0 where
  pub asks : (after.asks ≡ before.asks) ⊎ ((ask : Ask) × (ask.name ≡ name) × (after.asks ≡ before.asks ++ ask ∷ []))
  pub out : after.out ≡ before.out

-- some of these names were asked for, in their order, and each source is back
pub record Grew (names : List (List ℕ)) (before after : ShelfState) : Type 0 where
  pub asks : List Ask
  pub appended : after.asks ≡ before.asks ++ asks
  pub front : IsFrontOf (map (λ ask. ask.name) asks) names
  pub home : after.out ≡ before.out

-- all names were given and all sources are back, of which some may have failed: these are their asks
pub record CameHome (names : List (List ℕ)) (asks : List Ask) (before after : ShelfState) : Type 0 where
  pub appended : after.asks ≡ before.asks ++ asks
  pub named : map (λ ask. ask.name) asks ≡ names
  pub given : AreGiven asks
  pub unfailed : first_failed_ask asks ≡ None → after.count ≡ before.count
  pub failed : (at : ℕ) → first_failed_ask asks ≡ Some at → Rose before.count after.count
  pub out : after.out ≡ before.out

-- the rows that were taken of sources, behind a journal that others had taken
pub record SourcesRun (front : List Entry) (in_turns : Bool) (s : Setting) (names : List (List ℕ)) (before after : ShelfState) : Type 0 where
  pub journal : List Entry
  pub legal : IsLegal s.start (front ++ journal)
  pub sources : AreOfSources (length names) journal
  pub traceable : AreTraceable s.plan journal
  pub rows : AllBegin before s.plan names journal
  pub turns : in_turns ≡ true → GoInTurns names s.plan before after journal

-- the lines of a journal were put to the trace, and all of its verdicts to the other sink
pub record ArePut (s : Setting) (before after : Outside) (journal : List Entry) : Type 0 where
  pub trace : after.trace ≡ grown before.trace (trace_text journal)
  pub out : after.out ≡ grown before.out (verdicts s journal)

-- the same, behind a journal that others had taken
pub record ArePutBehind (front : List Entry) (s : Setting) (before after : Outside) (journal : List Entry) : Type 0 where
  pub trace : after.trace ≡ grown before.trace (trace_text journal)
  pub out : after.out ≡ grown before.out (verdicts_behind s front journal)

-- all sources were run to their ends
pub record EndedRun (front : List Entry) (in_turns : Bool) (s : Setting) (names : List (List ℕ)) (before after : Outside) : Type 0 where
  pub run : SourcesRun front in_turns s names before.shelf after.shelf
  pub put : ArePutBehind front s before after run.journal
  pub asks : List Ask
  pub home : CameHome names asks before.shelf after.shelf
  pub all : AllHome names before.shelf after.shelf
  pub no_fault : fault_in s (front ++ run.journal) ≡ None

-- each of them ends well
pub record DoneRun (front : List Entry) (in_turns : Bool) (line : EndLine) (s : Setting) (names : List (List ℕ)) (before after : Outside) : Type 0 where
  pub ended : EndedRun front in_turns s names before after
  pub rows : (n : ℕ) (name : List ℕ) → slice_get names n ≡ Some name → Ends (before.shelf.told name) s.plan n (rows_of n ended.run.journal) Whole
  pub line_is : line ≡ done_line_behind s front ended.run.journal

-- the least that has a malformed line is named
pub record MalformedRun (front : List Entry) (in_turns : Bool) (line : EndLine) (s : Setting) (names : List (List ℕ)) (before after : Outside) : Type 0 where
  pub ended : EndedRun front in_turns s names before after
  pub ends : List SourceEnd
  pub rows : AllEnd before.shelf s.plan names ended.run.journal ends
  pub at : MalformedSource
  pub least : first_malformed ends ≡ Some at
  pub line_is : line ≡ Malformed at.source at.row at.kind

-- no settled step has a fault: it stands at the deadline of the last stamp, once each source was read to its end or has failed
pub record IsAtDeadlineBehind (front : List Entry) (shelf : ShelfState) (s : Setting) (sources : List (List ℕ)) (asks : List Ask) (journal : List Entry) : Type 0 where
  pub settled : settled_fault_in s (front ++ journal) ≡ None
  pub read : AllRead shelf s.plan sources asks journal

-- sources were run to the first fault
pub record FaultRun (front : List Entry) (in_turns : Bool) (line : EndLine) (s : Setting) (names : List (List ℕ)) (before after : Outside) : Type 0 where
  pub run : SourcesRun front in_turns s names before.shelf after.shelf
  pub put : ArePutBehind front s before after run.journal
  pub asks : List Ask
  pub home : CameHome names asks before.shelf after.shelf
  pub fault : RunFault
  pub is_fault : fault_in s (front ++ run.journal) ≡ Some fault
  pub stands : IsRowFaultBehind s front run.journal fault ⊎ IsAtDeadlineBehind front before.shelf s names asks run.journal
  pub line_is : line ≡ fault_line s.plan fault

-- sources were run to the first fault of a row, before whose line a put failed: a proper part of the verdicts was put
pub record CutFaultRun (front : List Entry) (in_turns : Bool) (s : Setting) (names : List (List ℕ)) (before after : Outside) : Type 0 where
  pub run : SourcesRun front in_turns s names before.shelf after.shelf
  pub asks : List Ask
  pub home : CameHome names asks before.shelf after.shelf
  pub fault : RunFault
  pub is_fault : fault_in s (front ++ run.journal) ≡ Some fault
  pub stands : IsRowFaultBehind s front run.journal fault
  pub trace : after.trace ≡ grown before.trace (trace_text run.journal)
  pub out : PutBroke before.out after.out (verdicts_behind s front run.journal)

-- sources were run, and some could not be read to their ends
pub record CutRun (front : List Entry) (in_turns : Bool) (line : EndLine) (s : Setting) (names : List (List ℕ)) (before after : Outside) : Type 0 where
  pub run : SourcesRun front in_turns s names before.shelf after.shelf
  pub put : ArePutBehind front s before after run.journal
  pub no_fault : fault_in s (front ++ run.journal) ≡ None
  pub asks : List Ask
  pub home : CameHome names asks before.shelf after.shelf
  pub at : ℕ
  pub least : first_failed_ask asks ≡ Some at
  pub read : AllRead before.shelf s.plan names asks run.journal
  pub line_is : line ≡ UnreadableSource at

-- sources were run until a put failed
pub record BrokenRun (front : List Entry) (in_turns : Bool) (s : Setting) (names : List (List ℕ)) (before after : Outside) : Type 0 where
  pub run : SourcesRun front in_turns s names before.shelf after.shelf
  pub asks : List Ask
  pub home : CameHome names asks before.shelf after.shelf
  pub cut : CutsOffBehind s front names asks before after run.journal

-- sources were run until there was no memory
pub record UnfinishedRun (front : List Entry) (in_turns : Bool) (s : Setting) (names : List (List ℕ)) (before after : Outside) : Type 0 where
  pub run : SourcesRun front in_turns s names before.shelf after.shelf
  pub asks : List Ask
  pub home : CameHome names asks before.shelf after.shelf
  pub trace : after.trace ≡ grown before.trace (trace_text run.journal)
  pub out : HasFrontBehind s front before.out after.out run.journal ⊎ (after.out ≡ grown before.out (verdicts_behind s front run.journal))

-- a run of sources behind a journal, in turns or not
abbrev pub RunsSources : List Entry → Bool → CallEnd → Setting → List (List ℕ) → Outside → Outside → Type 0
RunsSources front in_turns (Line (Done a l n v)) s names before after = DoneRun front in_turns (Done a l n v) s names before after
RunsSources front in_turns (Line (Malformed n row kind)) s names before after = MalformedRun front in_turns (Malformed n row kind) s names before after
RunsSources front in_turns (Line (Fault stream kind time)) s names before after = FaultRun front in_turns (Fault stream kind time) s names before after
RunsSources front in_turns (Line (UnreadableSource n)) s names before after = CutRun front in_turns (UnreadableSource n) s names before after
RunsSources front in_turns (Line Usage) s names before after = ⊥
RunsSources front in_turns (Line (Refused r)) s names before after = ⊥
RunsSources front in_turns (Line UnreadableSpecification) s names before after = ⊥
RunsSources front in_turns (Line (Analysed n w)) s names before after = ⊥
RunsSources front in_turns (Drilled line) s names before after = ⊥
RunsSources front in_turns (Report text) s names before after = ⊥
RunsSources front in_turns (Replayed end) s names before after = ⊥
RunsSources front in_turns (Stated end) s names before after = ⊥
RunsSources front in_turns CutFault s names before after = CutFaultRun front in_turns s names before after
RunsSources front in_turns Put s names before after = BrokenRun front in_turns s names before after
RunsSources front in_turns Memory s names before after = UnfinishedRun front in_turns s names before after

-- behind whatever journal others had taken
abbrev pub RunsBehindAny : Bool → CallEnd → Keeping → List (List ℕ) → Outside → Outside → Type 0
RunsBehindAny in_turns outcome kept names before after = (front : List Entry) → IsBehind front front kept → RunsSources front in_turns outcome (setting_in kept) names before after

-- how a run of sources can end
abbrev pub EndsSources : CallEnd → Type 0
EndsSources (Line (Done a l n v)) = Unit {0}
EndsSources (Line (Malformed n row kind)) = Unit {0}
EndsSources (Line (Fault stream kind time)) = Unit {0}
EndsSources (Line (UnreadableSource n)) = Unit {0}
EndsSources (Line Usage) = ⊥
EndsSources (Line (Refused r)) = ⊥
EndsSources (Line UnreadableSpecification) = ⊥
EndsSources (Line (Analysed n w)) = ⊥
EndsSources (Drilled line) = ⊥
EndsSources (Report text) = ⊥
EndsSources (Replayed end) = ⊥
EndsSources (Stated end) = ⊥
EndsSources CutFault = Unit {0}
EndsSources Put = Unit {0}
EndsSources Memory = Unit {0}

-- sources were read, by a run that may go on from a state which no journal has
pub record RanSources (in_turns : Bool) (outcome : CallEnd) (kept : Keeping) (names : List (List ℕ)) (before after : Outside) : Type 0 where
  pub ends : EndsSources outcome
  pub behind : RunsBehindAny in_turns outcome kept names before after

-- nothing was put
pub record AreUntouched (before after : Outside) : Type 0 where
  pub trace : after.trace ≡ before.trace
  pub out : after.out ≡ before.out

-- a source was not given: no row was taken, no deadline was run, and nothing was put
pub record NotGivenRun (outcome : CallEnd) (before after : Outside) : Type 0 where
  pub at : ℕ
  pub outcome_is : outcome ≡ Line (UnreadableSource at)
  pub asks : List Ask
  pub appended : after.shelf.asks ≡ before.shelf.asks ++ asks
  pub least : first_failed_ask asks ≡ Some at
  pub ask : Ask
  pub is_ask : slice_get asks at ≡ Some ask
  pub not_given : ask.given ≡ false
  pub rose : Rose before.shelf.count after.shelf.count
  pub early : AreUntouched before after

-- there was no memory before any source was read
pub record NotBegunRun (outcome : CallEnd) (before after : Outside) : Type 0 where
  pub outcome_is : outcome ≡ Memory
  pub early : AreUntouched before after

-- a run of sources that were to be fetched: none was read, or they were
abbrev pub TakesSources : Bool → CallEnd → Keeping → List (List ℕ) → Outside → Outside → Type 0
TakesSources in_turns outcome kept names before after =
    NotGivenRun outcome before after ⊎ (NotBegunRun outcome before after ⊎ RanSources in_turns outcome kept names before after)

-- a specification was read, and its plan made
pub record ReadPlan (plan : Plan) (name : List ℕ) (before after : ShelfState) : Type 0 where
  pub is_plan : Plans (before.told name) plan
  pub accepted : IsAccepted plan
  pub one_model : HasItsModels plan
  pub shelf : after ≡ noted before name

-- a specification was read, and is refused
pub record ReadRefusal (r : Refusal) (name : List ℕ) (before after : ShelfState) : Type 0 where
  pub refused : IsRefusedBy (before.told name) r
  pub shelf : after ≡ noted before name

-- a text's plan, or why it has none
abbrev pub PlansText : Result Plan Unplanned → List ℕ → Type 0
PlansText (Ok plan) bytes = IsPlanOf bytes plan × HasItsModels plan
PlansText (Err unplanned.Unreadable) bytes = ⊥
PlansText (Err (unplanned.Refused r)) bytes = IsRefusalOf bytes r
PlansText (Err unplanned.Memory) bytes = Unit {0}

-- a name's plan, or why there is none
abbrev pub PlansName : Result Plan Unplanned → List ℕ → ShelfState → ShelfState → Type 0
PlansName (Ok plan) name before after = ReadPlan plan name before after
PlansName (Err unplanned.Unreadable) name before after = Marred name before after
PlansName (Err (unplanned.Refused r)) name before after = ReadRefusal r name before after
PlansName (Err unplanned.Memory) name before after = Stopped name before after

-- how a call ends without a plan
abbrev pub without_plan : Unplanned → CallEnd
without_plan unplanned.Unreadable = Line UnreadableSpecification
without_plan (unplanned.Refused r) = Line (Refused r)
without_plan unplanned.Memory = Memory

-- how a call ends where not all sources were fetched
abbrev pub unfetched : FetchStop → CallEnd
unfetched (fetch.Failed at) = Line (UnreadableSource at)
unfetched fetch.Memory = Memory

-- how each worker ended
abbrev pub ends_of : List Working → List (Option worker.SourceEnd)
ends_of workers = map (λ w. w.end) workers

-- whether a read failed
abbrev pub is_failed_read : Option worker.SourceEnd → Bool
is_failed_read None = false
is_failed_read (Some finish.End) = false
is_failed_read (Some (finish.Malformed kind row)) = false
is_failed_read (Some finish.ReadFailed) = true
is_failed_read (Some finish.Closed) = false
is_failed_read (Some finish.Memory) = false

-- the least source whose read failed
abbrev pub first_failed : List (Option worker.SourceEnd) → Option ℕ
first_failed [] = None
first_failed (end ∷ ends) = if is_failed_read end then Some 0 else option_map (λ n. n + 1) (first_failed ends)

-- the end of a source whose worker ended so, where its reads did not fail
abbrev pub source_end : Option worker.SourceEnd → SourceEnd
source_end None = Whole
source_end (Some finish.End) = Whole
source_end (Some (finish.Malformed kind row)) = MalformedAt kind row
source_end (Some finish.ReadFailed) = Whole
source_end (Some finish.Closed) = Whole
source_end (Some finish.Memory) = Whole

-- how sources end together where this one ends at a malformed line
abbrev pub malformed_at : ℕ → SourceEnd → Option SourcesEnd
malformed_at source Whole = None
malformed_at source (MalformedAt kind row) = Some (sources_end.Malformed source row kind)

-- the least source with a malformed line
abbrev pub malformed_by : Option MalformedSource → SourcesEnd
malformed_by None = sources_end.Whole
malformed_by (Some m) = sources_end.Malformed m.source m.row m.kind

-- how sources ended together: a failed read comes before a malformed line
abbrev pub end_by : Option ℕ → Option MalformedSource → SourcesEnd
end_by (Some at) m = sources_end.ReadFailed at
end_by None m = malformed_by m

abbrev pub end_of : List (Option worker.SourceEnd) → SourcesEnd
end_of ends = end_by (first_failed ends) (first_malformed (map source_end ends))

-- the last line of a run that no fault ended
abbrev pub line_of : SourcesEnd → Keeping → EndLine
line_of sources_end.Whole kept = Done kept.accepted kept.late kept.state.steps kept.state.lines
line_of (sources_end.ReadFailed at) kept = UnreadableSource at
line_of (sources_end.Malformed source row kind) kept = Malformed source row kind

-- what a run's end makes of a call
abbrev pub OutcomeAfter : Result (Unit {0}) Stop → SourcesEnd → Plan → Keeping → CallEnd → Type 0
OutcomeAfter (Ok done) end plan kept outcome = outcome ≡ Line (line_of end kept)
OutcomeAfter (Err (stop.Fault stream kind time)) end plan kept outcome = (outcome ≡ Line (fault_line plan (record { stream = stream; kind = kind; time = time }))) ⊎ (outcome ≡ Memory)
OutcomeAfter (Err (stop.CutFault stream kind time)) end plan kept outcome = outcome ≡ CutFault
OutcomeAfter (Err stop.Put) end plan kept outcome = outcome ≡ Put
OutcomeAfter (Err stop.Memory) end plan kept outcome = outcome ≡ Memory

-- all but the last line: all sources were run to their ends, which are well
pub record StoodDone (line : EndLine) (words : List (List ℕ)) (before after : Outside) : Type 0 where
  pub all : AllWell words before.shelf after.shelf line
  pub put : ArePut (setting_of all.run.plan all.run.names) before after all.run.journal

-- all but the last line: some source has a malformed line
pub record StoodMalformed (line : EndLine) (words : List (List ℕ)) (before after : Outside) : Type 0 where
  pub some : SomeMalformed words before.shelf after.shelf line
  pub put : ArePut (setting_of some.run.plan some.run.names) before after some.run.journal

-- all but the last line: sources were run to the first fault
pub record StoodFault (line : EndLine) (words : List (List ℕ)) (before after : Outside) : Type 0 where
  pub up_to : UpToFault words before.shelf after.shelf line
  pub put : ArePut (setting_of up_to.run.plan up_to.run.names) before after up_to.run.journal

-- all but the last line: a source was not given, or some could not be read to their ends
pub record StoodCut (line : EndLine) (words : List (List ℕ)) (before after : Outside) : Type 0 where
  pub short : CutShort words before.shelf after.shelf line
  pub put : ArePut (setting_of short.run.plan short.run.names) before after short.run.journal

-- all but the last line: the words are no command
pub record NoCommand (words : List (List ℕ)) (before after : Outside) : Type 0 where
  pub no_command : command_of words ≡ None
  pub shelf : after.shelf ≡ before.shelf
  pub early : AreUntouched before after

-- all but the last line: the specification is refused
pub record NoPlan (r : Refusal) (words : List (List ℕ)) (before after : Outside) : Type 0 where
  pub name : List ℕ
  pub is_command : specification_of words ≡ Some name
  pub cause : IsRefusedBy (before.shelf.told name) r
  pub asks : asks_between before.shelf after.shelf ≡ given_ask name ∷ []
  pub count : after.shelf.count ≡ before.shelf.count
  pub early : AreUntouched before after

-- all but the last line: the specification was not read
pub record NotRead (words : List (List ℕ)) (before after : Outside) : Type 0 where
  pub name : List ℕ
  pub is_command : specification_of words ≡ Some name
  pub has_failed : first_failed_ask (asks_between before.shelf after.shelf) ≡ Some 0
  pub rose : Rose before.shelf.count after.shelf.count
  pub early : AreUntouched before after

-- all but the report: the specification was analysed
pub record StoodAnalysed (text : List ℕ) (words : List (List ℕ)) (before after : Outside) : Type 0 where
  pub analysis : Analysis words before.shelf after.shelf
  pub text_is : text ≡ analysis_text analysis.plan
  pub early : AreUntouched before after

-- all but the last line: a drill was run
pub record StoodDrilled (line : EndLine) (words : List (List ℕ)) (before after : Outside) : Type 0 where
  pub of : OfDrill words before.shelf after.shelf
  pub drills : DrillsTo line of.drill
  pub early : AreUntouched before after

-- all but the last line: a trace and verdicts were read, and this was found of them
pub record StoodFound (finding : Finding) (words : List (List ℕ)) (before after : Outside) : Type 0 where
  pub replay : Replay words before.shelf after.shelf finding
  pub early : AreUntouched before after

-- all but the last line: a trace or verdicts were not read
pub record StoodUnread (end : ReplayEnd) (words : List (List ℕ)) (before after : Outside) : Type 0 where
  pub unread : Unread end words before.shelf after.shelf
  pub early : AreUntouched before after

-- all but the last line
abbrev pub Works : CallEnd → List (List ℕ) → Outside → Outside → Type 0
Works (Line (Done a l s v)) words before after = StoodDone (Done a l s v) words before after
Works (Line (Malformed n row kind)) words before after = StoodMalformed (Malformed n row kind) words before after
Works (Line (Fault stream kind time)) words before after = StoodFault (Fault stream kind time) words before after
Works (Line (UnreadableSource n)) words before after = StoodCut (UnreadableSource n) words before after
Works (Line Usage) words before after = NoCommand words before after
Works (Line (Refused r)) words before after = NoPlan r words before after
Works (Line UnreadableSpecification) words before after = NotRead words before after
Works (Line (Analysed s w)) words before after = ⊥
Works (Drilled line) words before after = StoodDrilled line words before after
Works (Report text) words before after = StoodAnalysed text words before after
Works (Replayed (replayed.Found finding)) words before after = StoodFound finding words before after
Works (Replayed replayed.UnreadableTrace) words before after = StoodUnread replayed.UnreadableTrace words before after
Works (Replayed replayed.UnreadableVerdicts) words before after = StoodUnread replayed.UnreadableVerdicts words before after
Works (Stated end) words before after = ⊥
Works CutFault words before after = IsFault (call words before after)
Works Put words before after = IsCutOff (call words before after)
Works Memory words before after = IsEarly (call words before after) ⊎ IsUnfinished (call words before after)
