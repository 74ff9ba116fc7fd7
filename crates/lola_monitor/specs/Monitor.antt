-- What the top call leaves, by its status.
use Rattle.std.specs.Prelude.{ℕ, ◌≡◌, ◌⊎◌, ◌+◌, ◌<◌, List, [], ◌∷◌, ◌++◌, Option, Some, None, option_map, Bool, true, false, not, ◌||◌, if◌then◌else◌, nat_lt, length, take, drop, map, slice_get, All}
use Rattle.lola_port.specs.Asks.{given_ask}
use Rattle.lola_port.specs.States.{PutBroke, Rose, ShelfState, SinkState, grown}
use Rattle.lola_port.specs.declared.traits.Ask.{Ask}
use Rattle.lola_value.specs.declared.front.Refusal.{Refusal}
use Rattle.lola_model.specs.Acceptance.{IsAccepted}
use Rattle.lola_model.specs.Journal.{IsLegal, accepted, rows_of}
use Rattle.lola_model.specs.Faults.{RunFault}
use Rattle.lola_model.specs.Trace.{trace_text}
use Rattle.lola_model.specs.Model.{HasOneModel}
use Rattle.lola_model.specs.Runs.{HasModelsOfRuns, final_lines, whole_model}
use Rattle.lola_model.specs.declared.plan.Plan.{Plan}
use Rattle.lola_model.specs.declared.spec.Stream.{Stream}
use Rattle.lola_model.specs.declared.journal.Row.{Row}
use Rattle.lola_model.specs.declared.journal.Entry.{Entry}
use Rattle.lola_model.specs.declared.source.MalformedKind.{MalformedKind}
use Rattle.lola_front.specs.Front.{IsPlanOf, IsRefusalOf}
use Rattle.lola_bounds.specs.Report.{report_of}
use Rattle.lola_monitor_command.specs.Command.{command_of}
use Rattle.lola_rows.specs.Rows.{SourceRows, SourceEnd, Whole, MalformedAt, rows_of_source}
use Rattle.lola_rows.specs.Columns.{inputs_of}
use Rattle.lola_report.specs.Ends.{end_text}
use Rattle.lola_report.specs.declared.end.EndLine.{EndLine}
use Rattle.lola_report.specs.declared.end.EndLine.TheVariants.{Done, Usage, Refused, Malformed, Fault, UnreadableSpecification, UnreadableSource, Analysed}
use Rattle.lola_monitor_run.specs.Verdicts.{AreOfSources, AreTraceable, HasFront, IsCutAtDeadline, IsCutAtRow, IsCutInLine, IsRowFault, Setting, fault_in, late_count, most_rows, settled_fault_in, settled_text, verdicts}
use Rattle.lola_monitor_run.specs.Rounds.{AreFirst}
use Rattle.lola_monitor.specs.Command.{Names, analysed_of, names_of, run_of, specification_of}

-- all that a call of the monitor is lent
pub record Outside : Type 0 where
  pub shelf : ShelfState
  pub out : SinkState
  pub trace : SinkState

abbrev pub outside : ShelfState → SinkState → SinkState → Outside
outside shelf out trace = record { shelf = shelf; out = out; trace = trace }

-- a call of the monitor: its words, and what it was lent, before and after
pub record Call : Type 0 where
  pub words : List (List ℕ)
  pub before : Outside
  pub after : Outside

abbrev pub call : List (List ℕ) → Outside → Outside → Call
call words before after = record { words = words; before = before; after = after }

-- an ask that was not given, or whose source has failed
abbrev pub is_failed_ask : Ask → Bool
is_failed_ask ask = not ask.given || nat_lt 0 ask.count

-- the place of the first failed ask
abbrev pub first_failed_ask : List Ask → Option ℕ
first_failed_ask [] = None
first_failed_ask (ask ∷ asks) = if is_failed_ask ask then Some 0 else option_map (λ n. n + 1) (first_failed_ask asks)

-- the asks of this call
abbrev pub asks_between : ShelfState → ShelfState → List Ask
asks_between before after = drop (length before.asks) after.asks

-- the list is a front of the other
abbrev pub IsFrontOf : List (List ℕ) → List (List ℕ) → Type 0
IsFrontOf xs ys = (rest : List (List ℕ)) × (ys ≡ xs ++ rest)

-- the shelf was asked for the first of these names in their order, and has each source back
pub record Asked (names : List (List ℕ)) (before after : ShelfState) : Type 0 where
  pub kept : take (length before.asks) after.asks ≡ before.asks
  pub front : IsFrontOf (map (λ ask. ask.name) (asks_between before after)) names
  pub home : after.out ≡ before.out

-- the sink received a text, or its count rose and it received a proper part of that text
abbrev pub Wrote : SinkState → SinkState → List ℕ → Type 0
Wrote old new text = (new ≡ grown old text) ⊎ PutBroke old new text

-- where the specification tells its bytes, this is a plan of it
abbrev pub Plans : Option (List ℕ) → Plan → Type 0
Plans told plan = (bytes : List ℕ) → told ≡ Some bytes → IsPlanOf bytes plan

-- where the specification tells its bytes, it is refused so
abbrev pub IsRefusedBy : Option (List ℕ) → Refusal → Type 0
IsRefusedBy told r = (bytes : List ℕ) → told ≡ Some bytes → IsRefusalOf bytes r

-- the rows and the end of source s with these bytes
abbrev pub source_rows : Plan → ℕ → List ℕ → SourceRows
source_rows plan s bytes = rows_of_source (inputs_of plan.spec.streams) s most_rows bytes

-- where source s tells its bytes, it has these rows and this end
abbrev pub Ends : Option (List ℕ) → Plan → ℕ → List Row → SourceEnd → Type 0
Ends told plan s rows end = (bytes : List ℕ) → told ≡ Some bytes → source_rows plan s bytes ≡ record { rows = rows; end = end }

-- where source s tells its bytes, these are its first rows
abbrev pub Begins : Option (List ℕ) → Plan → ℕ → List Row → Type 0
Begins told plan s rows = (bytes : List ℕ) → told ≡ Some bytes → (rest : List Row) × ((source_rows plan s bytes).rows ≡ rows ++ rest)

-- where source s tells its bytes, these are its rows
abbrev pub HasRows : Option (List ℕ) → Plan → ℕ → List Row → Type 0
HasRows told plan s rows = (bytes : List ℕ) → told ≡ Some bytes → (source_rows plan s bytes).rows ≡ rows

-- a journal has the first rows of each of these sources
abbrev pub AllBegin : ShelfState → Plan → List (List ℕ) → List Entry → Type 0
AllBegin shelf plan sources journal = (s : ℕ) (name : List ℕ) → slice_get sources s ≡ Some name → Begins (shelf.told name) plan s (rows_of s journal)

-- it has all rows of each, whose ends are these
pub record AllEnd (shelf : ShelfState) (plan : Plan) (sources : List (List ℕ)) (journal : List Entry) (ends : List SourceEnd) : Type 0 where
  pub many : length ends ≡ length sources
  pub each : (s : ℕ) (name : List ℕ) (end : SourceEnd) → slice_get sources s ≡ Some name → slice_get ends s ≡ Some end → Ends (shelf.told name) plan s (rows_of s journal) end

-- a source, and where its malformed line stands
pub record MalformedSource : Type 0 where
  pub source : ℕ
  pub row : ℕ
  pub kind : MalformedKind

-- the same of the source behind
abbrev pub one_further : MalformedSource → MalformedSource
one_further m = record m { source = m.source + 1 }

-- the least source that ends at a malformed line
abbrev pub first_malformed : List SourceEnd → Option MalformedSource
first_malformed [] = None
first_malformed (MalformedAt kind row ∷ ends) = Some (record { source = 0; row = row; kind = kind })
first_malformed (Whole ∷ ends) = option_map one_further (first_malformed ends)

-- the rows of a journal are the first rows of the sources in rounds: source 0, source 1, and so on, one row each. Each of these
-- lists has the first rows of its source, and all of them where no ask of this call has failed
pub record GoInTurns (sources : List (List ℕ)) (plan : Plan) (before after : ShelfState) (journal : List Entry) : Type 0 where
  pub lists : List (List Row)
  pub many : length lists ≡ length sources
  pub fronts : (s : ℕ) (name : List ℕ) (rows : List Row) → slice_get sources s ≡ Some name → slice_get lists s ≡ Some rows → Begins (before.told name) plan s rows
  pub whole : first_failed_ask (asks_between before after) ≡ None
      → (s : ℕ) (name : List ℕ) (rows : List Row) → slice_get sources s ≡ Some name → slice_get lists s ≡ Some rows → HasRows (before.told name) plan s rows
  pub first : AreFirst lists journal

-- of a command's run
abbrev pub setting_of : Plan → Names → Setting
setting_of plan names = record { plan = plan; start = names.start; show = names.show }

-- the last line of a run that ends well: how many rows were accepted and late, steps run and lines written
abbrev pub done_line : Setting → List Entry → EndLine
done_line s journal =
    Done (length (accepted journal)) (late_count journal) (length (whole_model s.plan s.start journal)) (length (final_lines s.plan s.start journal s.show))

abbrev pub name_in : Option Stream → List ℕ
name_in None = []
name_in (Some s) = s.name

abbrev pub fault_line : Plan → RunFault → EndLine
fault_line plan fault = Fault (name_in (slice_get plan.spec.streams fault.stream)) fault.kind fault.time

-- exactly one table solves the equations of a plan, over each list of steps and over each journal
pub record HasItsModels (plan : Plan) : Type 0 where
  pub over_steps : HasOneModel plan
  pub of_runs : HasModelsOfRuns plan

-- whether asks were given
abbrev pub AreGiven : List Ask → Type 0
AreGiven asks = All (λ (ask : Ask). ask.given ≡ true) asks

-- all sources were given, and may have failed: these are the asks for them
pub record WereGiven (sources : List (List ℕ)) (asks : List Ask) (before after : ShelfState) : Type 0 where
  pub named : map (λ ask. ask.name) asks ≡ sources
  pub given : AreGiven asks
  pub unfailed : first_failed_ask asks ≡ None → after.count ≡ before.count
  pub failed : (at : ℕ) → first_failed_ask asks ≡ Some at → Rose before.count after.count

-- rows were taken under a specification that was given, read and accepted, so that it has one model. They stand in one legal journal,
-- each entry of which a line of the trace can tell, so that its lines tell no other journal; they are the first rows of the sources.
-- Where there is a row, all sources were given
pub record Ran (words : List (List ℕ)) (before after : ShelfState) : Type 0 where
  pub names : Names
  pub is_command : run_of words ≡ Some names
  pub asks : List Ask
  pub between : asks_between before after ≡ given_ask names.specification ∷ asks
  pub plan : Plan
  pub is_plan : Plans (before.told names.specification) plan
  pub accepted : IsAccepted plan
  pub one_model : HasItsModels plan
  pub journal : List Entry
  pub legal : IsLegal names.start journal
  pub sources : AreOfSources (length names.sources) journal
  pub traceable : AreTraceable plan journal
  pub rows : AllBegin before plan names.sources journal
  pub turns : names.in_turns ≡ true → GoInTurns names.sources plan before after journal
  pub given : (journal ≡ []) ⊎ WereGiven names.sources asks before after

-- the rows that a call took
abbrev pub Rows : Call → Type 0
Rows c = Ran c.words c.before.shelf c.after.shelf

-- the specification and all sources were given, and nothing has failed
pub record AllGiven (names : Names) (before after : ShelfState) : Type 0 where
  pub asks : asks_between before after ≡ map given_ask (names_of names)
  pub count : after.count ≡ before.count

-- a journal has all rows of each source that was given and has not failed
abbrev pub AllRead : ShelfState → Plan → List (List ℕ) → List Ask → List Entry → Type 0
AllRead shelf plan sources asks journal = (s : ℕ) (name : List ℕ) (ask : Ask) → slice_get sources s ≡ Some name → slice_get asks s ≡ Some ask → is_failed_ask ask ≡ false
    → (end : SourceEnd) × Ends (shelf.told name) plan s (rows_of s journal) end

-- all rows of all sources were taken, no step has a fault, and each source ends well
pub record AllWell (words : List (List ℕ)) (before after : ShelfState) (line : EndLine) : Type 0 where
  pub run : Ran words before after
  pub given : AllGiven run.names before after
  pub rows : (s : ℕ) (name : List ℕ) → slice_get run.names.sources s ≡ Some name → Ends (before.told name) run.plan s (rows_of s run.journal) Whole
  pub no_fault : fault_in (setting_of run.plan run.names) run.journal ≡ None
  pub line_is : line ≡ done_line (setting_of run.plan run.names) run.journal

-- all rows of all sources before their malformed lines were taken, no step has a fault, and the least source that has a malformed
-- line is named
pub record SomeMalformed (words : List (List ℕ)) (before after : ShelfState) (line : EndLine) : Type 0 where
  pub run : Ran words before after
  pub given : AllGiven run.names before after
  pub ends : List SourceEnd
  pub rows : AllEnd before run.plan run.names.sources run.journal ends
  pub no_fault : fault_in (setting_of run.plan run.names) run.journal ≡ None
  pub at : MalformedSource
  pub least : first_malformed ends ≡ Some at
  pub line_is : line ≡ Malformed at.source at.row at.kind

-- no settled step has a fault: it stands at the deadline of the last stamp, once each source was read to its end or has failed
pub record IsAtDeadline (shelf : ShelfState) (s : Setting) (sources : List (List ℕ)) (asks : List Ask) (journal : List Entry) : Type 0 where
  pub settled : settled_fault_in s journal ≡ None
  pub read : AllRead shelf s.plan sources asks journal

-- rows were taken up to the first fault, which stands at the last of them or at the deadline of the last stamp
pub record UpToFault (words : List (List ℕ)) (before after : ShelfState) (line : EndLine) : Type 0 where
  pub run : Ran words before after
  pub given : WereGiven run.names.sources run.asks before after
  pub fault : RunFault
  pub is_fault : fault_in (setting_of run.plan run.names) run.journal ≡ Some fault
  pub stands : IsRowFault (setting_of run.plan run.names) run.journal fault ⊎ IsAtDeadline before (setting_of run.plan run.names) run.names.sources run.asks run.journal
  pub line_is : line ≡ fault_line run.plan fault

-- a source was not given, and no row was taken; or some could not be read to their ends, and of the others all rows were taken. No
-- step has a fault, and the least of these sources is named
pub record CutShort (words : List (List ℕ)) (before after : ShelfState) (line : EndLine) : Type 0 where
  pub run : Ran words before after
  pub at : ℕ
  pub least : first_failed_ask run.asks ≡ Some at
  pub rose : Rose before.count after.count
  pub unless_given : (s : ℕ) (ask : Ask) → slice_get run.asks s ≡ Some ask → ask.given ≡ false → run.journal ≡ []
  pub read : AreGiven run.asks → (map (λ ask. ask.name) run.asks ≡ run.names.sources) × AllRead before run.plan run.names.sources run.asks run.journal
  pub no_fault : fault_in (setting_of run.plan run.names) run.journal ≡ None
  pub line_is : line ≡ UnreadableSource at

-- the lines of the rows that were taken were put to the trace, and nothing else
abbrev pub AreTraced : (c : Call) → List Entry → Type 0
AreTraced c journal = c.after.trace ≡ grown c.before.trace (trace_text journal)

-- nothing was put to the trace
abbrev pub IsUntraced : Call → Type 0
IsUntraced c = c.after.trace ≡ c.before.trace

-- 0: all rows of all sources were taken, and each ends well; the verdicts and the end line were put
pub record IsDone (c : Call) : Type 0 where
  pub line : EndLine
  pub all : AllWell c.words c.before.shelf c.after.shelf line
  pub trace : AreTraced c all.run.journal
  pub out : c.after.out ≡ grown c.before.out (verdicts (setting_of all.run.plan all.run.names) all.run.journal ++ end_text line)

-- the specification was read and has a plan, to be analysed: nothing is traced
pub record Analysis (words : List (List ℕ)) (before after : ShelfState) : Type 0 where
  pub name : List ℕ
  pub is_command : analysed_of words ≡ Some name
  pub plan : Plan
  pub is_plan : Plans (before.told name) plan
  pub asks : asks_between before after ≡ given_ask name ∷ []
  pub count : after.count ≡ before.count

-- what was found of a specification, and how many streams and windows it has
abbrev pub analysis_text : Plan → List ℕ
analysis_text plan = report_of plan ++ end_text (Analysed (length plan.spec.streams) (length plan.spec.windows))

-- 0: the whole report was put
pub record IsAnalysed (c : Call) : Type 0 where
  pub analysis : Analysis c.words c.before.shelf c.after.shelf
  pub trace : IsUntraced c
  pub out : c.after.out ≡ grown c.before.out (analysis_text analysis.plan)

-- 2: the words are no command: nothing is asked, and nothing is traced
pub record IsUsage (c : Call) : Type 0 where
  pub no_command : command_of c.words ≡ None
  pub shelf : c.after.shelf ≡ c.before.shelf
  pub trace : IsUntraced c
  pub out : Wrote c.before.out c.after.out (end_text Usage)

-- 3: the specification was read, and is refused
pub record IsRefused (c : Call) : Type 0 where
  pub name : List ℕ
  pub is_command : specification_of c.words ≡ Some name
  pub refusal : Refusal
  pub cause : IsRefusedBy (c.before.shelf.told name) refusal
  pub asks : asks_between c.before.shelf c.after.shelf ≡ given_ask name ∷ []
  pub count : c.after.shelf.count ≡ c.before.shelf.count
  pub trace : IsUntraced c
  pub out : Wrote c.before.out c.after.out (end_text (Refused refusal))

-- 4: some source has a malformed line
pub record IsMalformed (c : Call) : Type 0 where
  pub line : EndLine
  pub some : SomeMalformed c.words c.before.shelf c.after.shelf line
  pub trace : AreTraced c some.run.journal
  pub out : c.after.out ≡ grown c.before.out (verdicts (setting_of some.run.plan some.run.names) some.run.journal ++ end_text line)

-- 5: a step has a fault. The sink received all verdicts and the end line or, its count having risen, a proper part of these
pub record IsFault (c : Call) : Type 0 where
  pub line : EndLine
  pub up_to : UpToFault c.words c.before.shelf c.after.shelf line
  pub trace : AreTraced c up_to.run.journal
  pub out : Wrote c.before.out c.after.out (verdicts (setting_of up_to.run.plan up_to.run.names) up_to.run.journal ++ end_text line)

-- 6: the specification was not given, or could not be read
pub record IsUnread (c : Call) : Type 0 where
  pub name : List ℕ
  pub is_command : specification_of c.words ≡ Some name
  pub has_failed : first_failed_ask (asks_between c.before.shelf c.after.shelf) ≡ Some 0
  pub rose : Rose c.before.shelf.count c.after.shelf.count
  pub trace : IsUntraced c
  pub out : Wrote c.before.out c.after.out (end_text UnreadableSpecification)

-- 6: a source was not given, or could not be read. All verdicts were put, and the end line or, the count having risen, a proper part of it
pub record IsCutShort (c : Call) : Type 0 where
  pub line : EndLine
  pub short : CutShort c.words c.before.shelf c.after.shelf line
  pub trace : AreTraced c short.run.journal
  pub out : Wrote (grown c.before.out (verdicts (setting_of short.run.plan short.run.names) short.run.journal)) c.after.out (end_text line)

-- the trace was cut within the line of a row, and no step before it has a fault: the verdicts of all rows before it were put
pub record IsCutInTrace (s : Setting) (before after : Outside) (journal : List Entry) : Type 0 where
  pub no_fault : settled_fault_in s journal ≡ None
  pub trace : IsCutInLine s.plan before.trace after.trace journal
  pub out : after.out ≡ grown before.out (settled_text s journal)

-- the verdicts of the last row were cut, and no step so far has a fault: that row is traced, as all before it
pub record IsCutInRow (s : Setting) (before after : Outside) (journal : List Entry) : Type 0 where
  pub no_fault : settled_fault_in s journal ≡ None
  pub trace : after.trace ≡ grown before.trace (trace_text journal)
  pub out : IsCutAtRow s before.out after.out journal

-- the verdicts of the deadlines at the last stamp were cut, and no step has a fault: each source was read to its end or has failed
pub record IsCutInDeadline (s : Setting) (sources : List (List ℕ)) (asks : List Ask) (before after : Outside) (journal : List Entry) : Type 0 where
  pub no_fault : fault_in s journal ≡ None
  pub read : AllRead before.shelf s.plan sources asks journal
  pub trace : after.trace ≡ grown before.trace (trace_text journal)
  pub out : IsCutAtDeadline s before.out after.out journal

-- where a run was cut before its end line
abbrev pub CutsOff : Setting → List (List ℕ) → List Ask → Outside → Outside → List Entry → Type 0
CutsOff s sources asks before after journal = IsCutInTrace s before after journal ⊎ (IsCutInRow s before after journal ⊎ IsCutInDeadline s sources asks before after journal)

-- 7: a put of a trace line or of verdicts failed
pub record IsCutOff (c : Call) : Type 0 where
  pub run : Rows c
  pub given : WereGiven run.names.sources run.asks c.before.shelf c.after.shelf
  pub cut : CutsOff (setting_of run.plan run.names) run.names.sources run.asks c.before c.after run.journal

-- 7: the end line of a run was cut that is done but for it
pub record IsCutDone (c : Call) : Type 0 where
  pub line : EndLine
  pub all : AllWell c.words c.before.shelf c.after.shelf line
  pub trace : AreTraced c all.run.journal
  pub out : PutBroke (grown c.before.out (verdicts (setting_of all.run.plan all.run.names) all.run.journal)) c.after.out (end_text line)

-- 7: the end line of a run was cut some source of which has a malformed line
pub record IsCutMalformed (c : Call) : Type 0 where
  pub line : EndLine
  pub some : SomeMalformed c.words c.before.shelf c.after.shelf line
  pub trace : AreTraced c some.run.journal
  pub out : PutBroke (grown c.before.out (verdicts (setting_of some.run.plan some.run.names) some.run.journal)) c.after.out (end_text line)

-- 7: a put of a run failed
abbrev pub IsBroken : Call → Type 0
IsBroken c = IsCutOff c ⊎ (IsCutDone c ⊎ IsCutMalformed c)

-- 7: the put of the report failed
pub record IsCutAnalysis (c : Call) : Type 0 where
  pub analysis : Analysis c.words c.before.shelf c.after.shelf
  pub trace : IsUntraced c
  pub out : PutBroke c.before.out c.after.out (analysis_text analysis.plan)

-- 8: there was no memory, and nothing was put
pub record IsEarly (c : Call) : Type 0 where
  pub trace : IsUntraced c
  pub out : c.after.out ≡ c.before.out

-- 8: there was no memory. The trace has the lines of the rows that were taken, and nothing else; the sink has a front of their
-- verdicts, or all, and no end line
pub record IsUnfinished (c : Call) : Type 0 where
  pub run : Rows c
  pub trace : AreTraced c run.journal
  pub out : HasFront (setting_of run.plan run.names) c.before.out c.after.out run.journal ⊎ (c.after.out ≡ grown c.before.out (verdicts (setting_of run.plan run.names) run.journal))

-- no other status comes
abbrev pub IsStatus : ℕ → Type 0
IsStatus n = n < 9

-- a run whose specification and sources are told and right, whose rows, those that the trace received, have no fault, and whose objects
-- have not failed
pub record IsClean (c : Call) : Type 0 where
  pub names : Names
  pub is_command : run_of c.words ≡ Some names
  pub specification : List ℕ
  pub specification_is : c.before.shelf.told names.specification ≡ Some specification
  pub not_refused : (r : Refusal) → IsRefusalOf specification r → ⊥
  pub told : (s : ℕ) (name : List ℕ) → slice_get names.sources s ≡ Some name → (bytes : List ℕ) × (c.before.shelf.told name ≡ Some bytes)
  pub ends : (s : ℕ) (name bytes : List ℕ) (plan : Plan) → slice_get names.sources s ≡ Some name → c.before.shelf.told name ≡ Some bytes → IsPlanOf specification plan
      → (source_rows plan s bytes).end ≡ Whole
  pub no_fault : (run : Rows c) → AreTraced c run.journal → fault_in (setting_of run.plan run.names) run.journal ≡ None
  pub shelf : Rose c.before.shelf.count c.after.shelf.count → ⊥
  pub out : Rose c.before.out.count c.after.out.count → ⊥
  pub trace : Rose c.before.trace.count c.after.trace.count → ⊥

-- an analysis whose specification is told and not refused, and whose objects have not failed
pub record IsCleanAnalysis (c : Call) : Type 0 where
  pub name : List ℕ
  pub is_command : analysed_of c.words ≡ Some name
  pub specification : List ℕ
  pub specification_is : c.before.shelf.told name ≡ Some specification
  pub not_refused : (r : Refusal) → IsRefusalOf specification r → ⊥
  pub shelf : Rose c.before.shelf.count c.after.shelf.count → ⊥
  pub out : Rose c.before.out.count c.after.out.count → ⊥

-- a command whose specification is told and has no plan, on a shelf that has not failed
pub record IsSpoiled (c : Call) : Type 0 where
  pub name : List ℕ
  pub is_command : specification_of c.words ≡ Some name
  pub specification : List ℕ
  pub specification_is : c.before.shelf.told name ≡ Some specification
  pub no_plan : (plan : Plan) → IsPlanOf specification plan → ⊥
  pub shelf : Rose c.before.shelf.count c.after.shelf.count → ⊥
