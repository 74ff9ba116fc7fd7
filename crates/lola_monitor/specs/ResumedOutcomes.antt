-- What a run leaves that goes on from a state, before its last line.
use Rattle.std.specs.Prelude.{◌≡◌, ◌⊎◌, ℕ, List, ◌++◌, Option, None, Some, false, map, slice_get}
use Rattle.lola_port.specs.Asks.{given_ask}
use Rattle.lola_port.specs.States.{PutBroke, Rose, ShelfState, grown}
use Rattle.lola_port.specs.declared.traits.Ask.{Ask}
use Rattle.lola_model.specs.Faults.{RunFault}
use Rattle.lola_model.specs.Journal.{accepted, known_start, opening_time}
use Rattle.lola_model.specs.Trace.{trace_text}
use Rattle.lola_model.specs.declared.journal.Entry.{Entry}
use Rattle.lola_model.specs.declared.journal.Show.{Show}
use Rattle.lola_model.specs.declared.plan.Plan.{Plan}
use Rattle.lola_report.specs.declared.end.EndLine.{EndLine}
use Rattle.lola_report.specs.declared.end.EndLine.TheVariants.{Done, Usage, Refused, Malformed, Fault, UnreadableSpecification, UnreadableSource, Analysed}
use Rattle.lola_save.specs.declared.end.StateEnd.TheVariants as state_end
use Rattle.lola_save_text.specs.Damage.{IsStateText}
use Rattle.lola_monitor_run.specs.Behind.{HasFrontBehind, HasTakenNone, IsBehind, IsRowFaultBehind, verdicts_behind}
use Rattle.lola_monitor_run.specs.Running.{Keeping}
use Rattle.lola_monitor_run.specs.Verdicts.{fault_in}
use Rattle.lola_monitor.specs.Command.{Resumption}
use Rattle.lola_monitor.specs.Monitor.{MalformedSource, Outside, Plans, WereGiven, asks_between, fault_line, first_failed_ask}
use Rattle.lola_monitor.specs.Outcomes.{ArePutBehind, AreUntouched, IsAtDeadlineBehind, noted}
use Rattle.lola_monitor.specs.Pasts.{AreAllRows, AreRowsBeforeMalformed, AreRowsOfOthers, IsFrontIn, IsSavedAs, RanBehind, done_line_behind, malformed_line, texts_of}
use Rattle.lola_monitor.specs.Refusals.{StoodRefused, StoodStateRefused, StoodUnread}
use Rattle.lola_monitor.specs.Replaying.{IsText}
use Rattle.lola_monitor.specs.Resumed.{CutsOffBehind, inputs_of, setting_of_resumed}
use Rattle.lola_monitor.specs.declared.call_end.CallEnd.{CallEnd}
use Rattle.lola_monitor.specs.declared.call_end.CallEnd.TheVariants.{Line, Drilled, Report, Replayed, Stated, CutFault, Put, Memory}
use Rattle.lola_monitor.specs.declared.call_end.Unloaded.{Unloaded}
use Rattle.lola_monitor.specs.declared.call_end.Unloaded.TheVariants as unloaded

-- how a call ends without an engine
abbrev pub without_engine : Unloaded → CallEnd
without_engine (unloaded.Stated end) = Stated end
without_engine unloaded.Memory = Memory

-- a state was read, and a run of the plan goes on from it, behind whatever journal it was whose state it is. The merge of its sources begins
-- at this time
pub record RunRead (specification : List ℕ) (plan : Plan) (show : Show) (name : List ℕ) (kept : Keeping) (merge : Option ℕ) (before after : ShelfState) : Type 0 where
  pub bytes : List ℕ
  pub is_text : IsText (before.told name) bytes
  pub is_state : IsStateText specification plan bytes
  pub steps_before : kept.state.behind ≡ is_state.state.steps
  pub none : HasTakenNone kept
  pub merged : opening_time merge ≡ kept.state.merged
  pub plan_is : kept.state.plan ≡ plan
  pub show_is : kept.state.show ≡ show
  pub start_is : (start : Option ℕ) (front : List Entry) → IsSavedAs specification plan bytes start front → kept.state.given_start ≡ known_start start (accepted front)
  pub stands : (start : Option ℕ) (front : List Entry) → IsSavedAs specification plan bytes start front → IsBehind front front kept
  pub shelf : after ≡ noted before name

-- where both are told, the state is one of the plan's
abbrev pub IsStateTold : Option (List ℕ) → Plan → Option (List ℕ) → Type 0
IsStateTold specification plan state = (text bytes : List ℕ) → specification ≡ Some text → state ≡ Some bytes → IsStateText text plan bytes

-- the specification and the state were read: it has a plan, of which the state is one. Whatever journal it was whose state that is, this is
-- left of the rows behind it
pub record GoesOn (P : Option ℕ → List Entry → Type 0) (names : Resumption) (shelf : ShelfState) : Type 0 where
  pub plan : Plan
  pub is_plan : Plans (shelf.told names.specification) plan
  pub is_state : IsStateTold (shelf.told names.specification) plan (shelf.told names.state)
  pub rows : (start : Option ℕ) (front : List Entry) → IsFrontIn shelf names.specification names.state start front → P start front

module _ (names : Resumption) (start : Option ℕ) (front : List Entry) (before after : Outside) where
  -- all but the last line: all sources were run to their ends, which are well
  pub record StoodDone (line : EndLine) : Type 0 where
    pub all : AreAllRows (inputs_of names) start front before.shelf after.shelf
    pub put : ArePutBehind front (setting_of_resumed all.run.plan names start front) before after all.run.journal
    pub no_fault : fault_in (setting_of_resumed all.run.plan names start front) (front ++ all.run.journal) ≡ None
    pub line_is : line ≡ done_line_behind (setting_of_resumed all.run.plan names start front) front all.run.journal

  -- all but the last line: some source has a malformed line
  pub record StoodMalformed (line : EndLine) : Type 0 where
    pub at : MalformedSource
    pub some : AreRowsBeforeMalformed at (inputs_of names) start front before.shelf after.shelf
    pub put : ArePutBehind front (setting_of_resumed some.run.plan names start front) before after some.run.journal
    pub no_fault : fault_in (setting_of_resumed some.run.plan names start front) (front ++ some.run.journal) ≡ None
    pub line_is : line ≡ malformed_line at

  -- all but the last line: sources were run to the first fault
  pub record StoodFault (line : EndLine) : Type 0 where
    pub run : RanBehind (inputs_of names) start front before.shelf after.shelf
    pub given : WereGiven names.sources run.asks before.shelf after.shelf
    pub put : ArePutBehind front (setting_of_resumed run.plan names start front) before after run.journal
    pub fault : RunFault
    pub is_fault : fault_in (setting_of_resumed run.plan names start front) (front ++ run.journal) ≡ Some fault
    pub stands : IsRowFaultBehind (setting_of_resumed run.plan names start front) front run.journal fault
        ⊎ IsAtDeadlineBehind front before.shelf (setting_of_resumed run.plan names start front) names.sources run.asks run.journal
    pub line_is : line ≡ fault_line run.plan fault

  -- sources were run to the first fault of a row, before whose line a put failed: a proper part of the verdicts was put
  pub record StoodCutFault : Type 0 where
    pub run : RanBehind (inputs_of names) start front before.shelf after.shelf
    pub given : WereGiven names.sources run.asks before.shelf after.shelf
    pub fault : RunFault
    pub is_fault : fault_in (setting_of_resumed run.plan names start front) (front ++ run.journal) ≡ Some fault
    pub stands : IsRowFaultBehind (setting_of_resumed run.plan names start front) front run.journal fault
    pub trace : after.trace ≡ grown before.trace (trace_text run.journal)
    pub out : PutBroke before.out after.out (verdicts_behind (setting_of_resumed run.plan names start front) front run.journal)

  -- all but the last line: all sources were given, and some could not be read to their ends
  pub record StoodCut (line : EndLine) : Type 0 where
    pub at : ℕ
    pub others : AreRowsOfOthers at (inputs_of names) start front before.shelf after.shelf
    pub given : WereGiven names.sources others.run.asks before.shelf after.shelf
    pub put : ArePutBehind front (setting_of_resumed others.run.plan names start front) before after others.run.journal
    pub no_fault : fault_in (setting_of_resumed others.run.plan names start front) (front ++ others.run.journal) ≡ None
    pub line_is : line ≡ UnreadableSource at

  -- sources were run until a put failed
  pub record StoodCutOff : Type 0 where
    pub run : RanBehind (inputs_of names) start front before.shelf after.shelf
    pub given : WereGiven names.sources run.asks before.shelf after.shelf
    pub cut : CutsOffBehind (setting_of_resumed run.plan names start front) front names.sources run.asks before after run.journal

  -- sources were run until there was no memory
  pub record StoodUnfinished : Type 0 where
    pub run : RanBehind (inputs_of names) start front before.shelf after.shelf
    pub trace : after.trace ≡ grown before.trace (trace_text run.journal)
    pub out : HasFrontBehind (setting_of_resumed run.plan names start front) front before.out after.out run.journal
        ⊎ (after.out ≡ grown before.out (verdicts_behind (setting_of_resumed run.plan names start front) front run.journal))

-- all but the last line: a source was not given, and nothing was run
pub record StoodNotGiven (line : EndLine) (names : Resumption) (before after : Outside) : Type 0 where
  pub asks : List Ask
  pub between : asks_between before.shelf after.shelf ≡ map given_ask (texts_of (inputs_of names)) ++ asks
  pub at : ℕ
  pub least : first_failed_ask asks ≡ Some at
  pub ask : Ask
  pub is_ask : slice_get asks at ≡ Some ask
  pub not_given : ask.given ≡ false
  pub rose : Rose before.shelf.count after.shelf.count
  pub early : AreUntouched before after
  pub line_is : line ≡ UnreadableSource at

-- all but the last line of a run that goes on from a state
abbrev pub WorksResumed : CallEnd → Resumption → Outside → Outside → Type 0
WorksResumed (Line (Done a l s v)) names before after = GoesOn (λ start front. StoodDone names start front before after (Done a l s v)) names before.shelf
WorksResumed (Line (Malformed n row kind)) names before after = GoesOn (λ start front. StoodMalformed names start front before after (Malformed n row kind)) names before.shelf
WorksResumed (Line (Fault stream kind time)) names before after = GoesOn (λ start front. StoodFault names start front before after (Fault stream kind time)) names before.shelf
WorksResumed (Line (UnreadableSource n)) names before after =
    StoodNotGiven (UnreadableSource n) names before after ⊎ GoesOn (λ start front. StoodCut names start front before after (UnreadableSource n)) names before.shelf
WorksResumed (Line Usage) names before after = ⊥
WorksResumed (Line (Refused r)) names before after = StoodRefused r names.specification before after
WorksResumed (Line UnreadableSpecification) names before after = StoodUnread 0 before after
WorksResumed (Line (Analysed s w)) names before after = ⊥
WorksResumed (Drilled line) names before after = ⊥
WorksResumed (Report text) names before after = ⊥
WorksResumed (Replayed end) names before after = ⊥
WorksResumed (Stated state_end.Unreadable) names before after = StoodUnread 1 before after
WorksResumed (Stated (state_end.Damaged line)) names before after = StoodStateRefused (state_end.Damaged line) names.specification names.state before after
WorksResumed (Stated state_end.OtherSpecification) names before after = StoodStateRefused state_end.OtherSpecification names.specification names.state before after
WorksResumed (Stated state_end.TooManySteps) names before after = ⊥
WorksResumed CutFault names before after = GoesOn (λ start front. StoodCutFault names start front before after) names before.shelf
WorksResumed Put names before after = GoesOn (λ start front. StoodCutOff names start front before after) names before.shelf
WorksResumed Memory names before after = AreUntouched before after ⊎ GoesOn (λ start front. StoodUnfinished names start front before after) names before.shelf
