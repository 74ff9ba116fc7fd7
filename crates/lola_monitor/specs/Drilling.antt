-- What a drill comes to: made-up sources are read in turns, and its end line alone is put.
use Rattle.std.specs.Prelude.{◌≡◌, ◌⊎◌, ◌<◌, ℕ, List, [], ◌∷◌, None, Some, length, slice_get}
use Rattle.lola_port.specs.States.{PutBroke, Rose, ShelfState, SourceState, grown}
use Rattle.lola_value.specs.declared.front.Refusal.{Refusal}
use Rattle.lola_model.specs.Acceptance.{IsAccepted}
use Rattle.lola_model.specs.Faults.{RunFault}
use Rattle.lola_model.specs.Journal.{IsLegal, rows_of}
use Rattle.lola_model.specs.declared.journal.Entry.{Entry}
use Rattle.lola_model.specs.declared.journal.Show.TheVariants as show
use Rattle.lola_model.specs.declared.plan.Plan.{Plan}
use Rattle.lola_front.specs.Front.{IsPlanOf, IsRefusalOf}
use Rattle.lola_monitor_command.specs.declared.command.DrillCommand.{DrillCommand}
use Rattle.lola_rows.specs.Reading.{fresh, shape_of}
use Rattle.lola_rows.specs.Rows.{SourceRows, Whole}
use Rattle.lola_feed.specs.Feeding.{Working, beginning}
use Rattle.lola_report.specs.Ends.{end_text}
use Rattle.lola_report.specs.declared.end.EndLine.{EndLine}
use Rattle.lola_report.specs.declared.end.EndLine.TheVariants.{Done, Usage, Refused, Malformed, Fault, UnreadableSpecification, UnreadableSource, Analysed}
use Rattle.lola_feed.specs.Drills.{drill_bytes, drill_text}
use Rattle.lola_monitor_run.specs.Verdicts.{AreOfSources, IsRowFault, Setting, fault_in, most_rows, settled_fault_in}
use Rattle.lola_monitor_run.specs.Rounds.{AreFirst}
use Rattle.lola_monitor.specs.declared.call_end.CallEnd.{CallEnd}
use Rattle.lola_monitor.specs.declared.call_end.CallEnd.TheVariants.{Line, Drilled, Report, Replayed, Stated, CutFault, Put, Memory}
use Rattle.lola_monitor.specs.Command.{drill_of}
use Rattle.lola_monitor.specs.Monitor.{Call, HasItsModels, IsUntraced, MalformedSource, Wrote, done_line, fault_line, first_malformed, source_rows}

-- the rows and the end of the made-up source 0 or 1
abbrev pub drill_rows : Plan → DrillCommand → ℕ → SourceRows
drill_rows plan d s = source_rows plan s (drill_bytes d.number s d.rows)

-- time begins with the first row, and triggers are shown
abbrev pub drill_setting : Plan → Setting
drill_setting plan = record { plan = plan; start = None; show = show.Triggers }

-- rows of both made-up sources were taken in turns, under the drill's specification
pub record DrillRun (d : DrillCommand) : Type 0 where
  pub plan : Plan
  pub is_plan : IsPlanOf drill_text plan
  pub accepted : IsAccepted plan
  pub one_model : HasItsModels plan
  pub journal : List Entry
  pub legal : IsLegal None journal
  pub sources : AreOfSources 2 journal
  pub turns : AreFirst ((drill_rows plan d 0).rows ∷ (drill_rows plan d 1).rows ∷ []) journal

-- all rows of both were taken
abbrev pub TookAll : (d : DrillCommand) → DrillRun d → Type 0
TookAll d run = (s : ℕ) → s < 2 → (drill_rows run.plan d s).rows ≡ rows_of s run.journal

-- all rows of both were taken, each ends well, and no step has a fault
pub record IsDrillDone (d : DrillCommand) (line : EndLine) : Type 0 where
  pub run : DrillRun d
  pub rows : (s : ℕ) → s < 2 → drill_rows run.plan d s ≡ record { rows = rows_of s run.journal; end = Whole }
  pub no_fault : fault_in (drill_setting run.plan) run.journal ≡ None
  pub line_is : line ≡ done_line (drill_setting run.plan) run.journal

-- all rows of both were taken up to their malformed lines, and the least source that has one is named
pub record IsDrillMalformed (d : DrillCommand) (line : EndLine) : Type 0 where
  pub run : DrillRun d
  pub rows : TookAll d run
  pub at : MalformedSource
  pub least : first_malformed ((drill_rows run.plan d 0).end ∷ (drill_rows run.plan d 1).end ∷ []) ≡ Some at
  pub no_fault : fault_in (drill_setting run.plan) run.journal ≡ None
  pub line_is : line ≡ Malformed at.source at.row at.kind

-- no settled step has a fault: it stands at the deadline of the last stamp, once all rows of both were taken
pub record IsAtDrillDeadline (d : DrillCommand) (run : DrillRun d) : Type 0 where
  pub settled : settled_fault_in (drill_setting run.plan) run.journal ≡ None
  pub rows : TookAll d run

-- rows were taken up to the first fault, which stands at the last of them or at the deadline of the last stamp
pub record IsDrillFault (d : DrillCommand) (line : EndLine) : Type 0 where
  pub run : DrillRun d
  pub fault : RunFault
  pub is_fault : fault_in (drill_setting run.plan) run.journal ≡ Some fault
  pub stands : IsRowFault (drill_setting run.plan) run.journal fault ⊎ IsAtDrillDeadline d run
  pub line_is : line ≡ fault_line run.plan fault

-- a drill, by its end line
abbrev pub DrillsTo : EndLine → DrillCommand → Type 0
DrillsTo (Done a l s v) d = IsDrillDone d (Done a l s v)
DrillsTo (Refused r) d = IsRefusalOf drill_text r
DrillsTo (Malformed n row kind) d = IsDrillMalformed d (Malformed n row kind)
DrillsTo (Fault stream kind time) d = IsDrillFault d (Fault stream kind time)
DrillsTo Usage d = ⊥
DrillsTo UnreadableSpecification d = ⊥
DrillsTo (UnreadableSource n) d = ⊥
DrillsTo (Analysed s w) d = ⊥

-- the words are a drill, and nothing is asked for
pub record OfDrill (words : List (List ℕ)) (before after : ShelfState) : Type 0 where
  pub drill : DrillCommand
  pub is_command : drill_of words ≡ Some drill
  pub shelf : after ≡ before

-- the drill of a call
abbrev pub DrillIn : Call → Type 0
DrillIn c = OfDrill c.words c.before.shelf c.after.shelf

-- 0: the end line of a drill that ends well, alone
pub record IsDrilled (c : Call) : Type 0 where
  pub of : DrillIn c
  pub line : EndLine
  pub done : IsDrillDone of.drill line
  pub trace : IsUntraced c
  pub out : c.after.out ≡ grown c.before.out (end_text line)

-- 3: that of one whose specification is refused
pub record IsRefusedDrill (c : Call) : Type 0 where
  pub of : DrillIn c
  pub refusal : Refusal
  pub cause : IsRefusalOf drill_text refusal
  pub trace : IsUntraced c
  pub out : Wrote c.before.out c.after.out (end_text (Refused refusal))

-- 4: that of one with a malformed line in a source
pub record IsMalformedDrill (c : Call) : Type 0 where
  pub of : DrillIn c
  pub line : EndLine
  pub malformed : IsDrillMalformed of.drill line
  pub trace : IsUntraced c
  pub out : c.after.out ≡ grown c.before.out (end_text line)

-- 5: that of one whose rows have a fault
pub record IsFaultyDrill (c : Call) : Type 0 where
  pub of : DrillIn c
  pub line : EndLine
  pub fault : IsDrillFault of.drill line
  pub trace : IsUntraced c
  pub out : Wrote c.before.out c.after.out (end_text line)

-- 7: the put of the end line failed, of a drill that ends well or has a malformed line in a source
pub record IsCutDrill (c : Call) : Type 0 where
  pub of : DrillIn c
  pub line : EndLine
  pub is : IsDrillDone of.drill line ⊎ IsDrillMalformed of.drill line
  pub trace : IsUntraced c
  pub out : PutBroke c.before.out c.after.out (end_text line)

-- how a drill ends before its line is put
abbrev pub DrillsBy : CallEnd → DrillCommand → Type 0
DrillsBy (Line line) d = ⊥
DrillsBy (Drilled line) d = DrillsTo line d
DrillsBy (Report text) d = ⊥
DrillsBy (Replayed end) d = ⊥
DrillsBy (Stated end) d = ⊥
DrillsBy CutFault d = ⊥
DrillsBy Put d = ⊥
DrillsBy Memory d = Unit {0}

-- the worker of source 0 or 1 of a drill before its first turn, over all bytes of that source
pub record IsDrillWorker (plan : Plan) (d : DrillCommand) (source : ℕ) (worker : Working) : Type 0 where
  pub file : SourceState
  pub is : worker ≡ beginning (fresh (shape_of plan.spec.streams source most_rows) file)
  pub left : file.left ≡ Some (drill_bytes d.number source d.rows)
  pub count : file.count ≡ 0

-- the workers of both
pub record AreDrillWorkers (plan : Plan) (d : DrillCommand) (workers : List Working) : Type 0 where
  pub many : length workers ≡ 2
  pub each : (s : ℕ) (w : Working) → slice_get workers s ≡ Some w → IsDrillWorker plan d s w

-- a drill whose specification is not refused, whose sources end well, whose rows, all of them, have no fault, and no put of which failed
pub record IsCleanDrill (c : Call) : Type 0 where
  pub drill : DrillCommand
  pub is_command : drill_of c.words ≡ Some drill
  pub not_refused : (r : Refusal) → IsRefusalOf drill_text r → ⊥
  pub ends : (plan : Plan) (s : ℕ) → IsPlanOf drill_text plan → s < 2 → (drill_rows plan drill s).end ≡ Whole
  pub no_fault : (run : DrillRun drill) → TookAll drill run → fault_in (drill_setting run.plan) run.journal ≡ None
  pub out : Rose c.before.out.count c.after.out.count → ⊥
