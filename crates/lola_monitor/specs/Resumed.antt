-- What a run leaves that goes on from a saved state, by its status: whatever journal it was whose state was saved, the rows of this run come
-- behind it as if it had never stopped.
use Rattle.std.specs.Prelude.{ℕ, ◌≡◌, ◌⊎◌, ◌≤◌, false, List, ◌++◌, Option, Some, None, map, slice_get}
use Rattle.lola_port.specs.Asks.{given_ask}
use Rattle.lola_port.specs.States.{PutBroke, Rose, grown}
use Rattle.lola_model.specs.Faults.{RunFault}
use Rattle.lola_model.specs.Trace.{trace_text}
use Rattle.lola_model.specs.declared.journal.Entry.{Entry}
use Rattle.lola_model.specs.declared.plan.Plan.{Plan}
use Rattle.lola_report.specs.Ends.{end_text}
use Rattle.lola_report.specs.declared.end.EndLine.TheVariants.{UnreadableSource}
use Rattle.lola_monitor_run.specs.Behind.{HasFrontBehind, IsCutAtDeadlineBehind, IsCutAtRowBehind, IsRowFaultBehind, settled_behind, verdicts_behind}
use Rattle.lola_monitor_run.specs.Verdicts.{IsCutInLine, Setting, fault_in, settled_fault_in}
use Rattle.lola_port.specs.declared.traits.Ask.{Ask}
use Rattle.lola_monitor.specs.Causes.{HasCause}
use Rattle.lola_monitor.specs.Command.{Resumption}
use Rattle.lola_monitor.specs.Monitor.{AllRead, AreGiven, AreTraced, Call, IsEarly, IsUntraced, MalformedSource, Outside, WereGiven, Wrote, asks_between, fault_line, first_failed_ask}
use Rattle.lola_monitor.specs.Pasts.{AreAllRows, AreRowsBeforeMalformed, AreRowsOfOthers, AreWellTold, Inputs, IsBadState, IsFrontIn, IsReadable, IsRefusedNamed, IsSpoiledNamed, IsStateRefused, IsUnreadNamed, RanBehind, done_line_behind, malformed_line, setting_behind, texts_of}

-- what its rows are taken of
abbrev pub inputs_of : Resumption → Inputs
inputs_of names = record { specification = names.specification; state = Some names.state; sources = names.sources; in_turns = names.in_turns }

-- whatever journal it was whose state was saved
abbrev pub Behind : (Resumption → Option ℕ → List Entry → Call → Type 0) → Resumption → Call → Type 0
Behind P names c = (start : Option ℕ) (front : List Entry) → IsFrontIn c.before.shelf names.specification names.state start front → P names start front c

-- the rows that it took behind that journal
abbrev pub RowsBehind : Resumption → Option ℕ → List Entry → Call → Type 0
RowsBehind names start front c = RanBehind (inputs_of names) start front c.before.shelf c.after.shelf

abbrev pub setting_of_resumed : Plan → Resumption → Option ℕ → List Entry → Setting
setting_of_resumed plan names start front = setting_behind plan names.show start front

-- all verdicts of the rows behind the journal
abbrev pub verdicts_of : (names : Resumption) (start : Option ℕ) (front : List Entry) → (c : Call) → RanBehind (inputs_of names) start front c.before.shelf c.after.shelf → List ℕ
verdicts_of names start front c run = verdicts_behind (setting_of_resumed run.plan names start front) front run.journal

-- 0: all rows of all sources were taken, each ends well, and no step has a fault; the verdicts and the end line were put
pub record IsDoneBehind (names : Resumption) (start : Option ℕ) (front : List Entry) (c : Call) : Type 0 where
  pub all : AreAllRows (inputs_of names) start front c.before.shelf c.after.shelf
  pub no_fault : fault_in (setting_of_resumed all.run.plan names start front) (front ++ all.run.journal) ≡ None
  pub trace : AreTraced c all.run.journal
  pub out : c.after.out ≡ grown c.before.out (verdicts_of names start front c all.run
      ++ end_text (done_line_behind (setting_of_resumed all.run.plan names start front) front all.run.journal))

-- 4: some source has a malformed line
pub record IsMalformedBehind (names : Resumption) (start : Option ℕ) (front : List Entry) (c : Call) : Type 0 where
  pub at : MalformedSource
  pub some : AreRowsBeforeMalformed at (inputs_of names) start front c.before.shelf c.after.shelf
  pub no_fault : fault_in (setting_of_resumed some.run.plan names start front) (front ++ some.run.journal) ≡ None
  pub trace : AreTraced c some.run.journal
  pub out : c.after.out ≡ grown c.before.out (verdicts_of names start front c some.run ++ end_text (malformed_line at))

-- the fault stands at the deadline of the last stamp, once each source was read to its end or has failed
pub record IsAtDeadlineBehind (names : Resumption) (start : Option ℕ) (front : List Entry) (c : Call) (run : RowsBehind names start front c) : Type 0 where
  pub settled : settled_fault_in (setting_of_resumed run.plan names start front) (front ++ run.journal) ≡ None
  pub read : AllRead c.before.shelf run.plan names.sources run.asks run.journal

-- 5: a step behind those of the journal has a fault, that of the last row or of the deadlines at the last stamp. The sink received all
-- verdicts and the end line or, its count having risen, a proper part of these
pub record IsFaultBehind (names : Resumption) (start : Option ℕ) (front : List Entry) (c : Call) : Type 0 where
  pub run : RowsBehind names start front c
  pub given : WereGiven names.sources run.asks c.before.shelf c.after.shelf
  pub fault : RunFault
  pub is_fault : fault_in (setting_of_resumed run.plan names start front) (front ++ run.journal) ≡ Some fault
  pub stands : IsRowFaultBehind (setting_of_resumed run.plan names start front) front run.journal fault ⊎ IsAtDeadlineBehind names start front c run
  pub trace : AreTraced c run.journal
  pub out : Wrote c.before.out c.after.out (verdicts_of names start front c run ++ end_text (fault_line run.plan fault))

-- 6: a source was not given: no row was taken, the deadlines at the journal's last stamp were not run, and nothing but the end line was put
pub record IsSourceNotGiven (names : Resumption) (c : Call) : Type 0 where
  pub asks : List Ask
  pub between : asks_between c.before.shelf c.after.shelf ≡ map given_ask (texts_of (inputs_of names)) ++ asks
  pub at : ℕ
  pub least : first_failed_ask asks ≡ Some at
  pub ask : Ask
  pub is_ask : slice_get asks at ≡ Some ask
  pub not_given : ask.given ≡ false
  pub rose : Rose c.before.shelf.count c.after.shelf.count
  pub trace : IsUntraced c
  pub out : Wrote c.before.out c.after.out (end_text (UnreadableSource at))

-- 6: all sources were given, and some could not be read to their ends; of the others all rows were taken. All verdicts were put, and the end
-- line or, the count having risen, a proper part of it
pub record IsCutShortBehind (names : Resumption) (start : Option ℕ) (front : List Entry) (c : Call) : Type 0 where
  pub at : ℕ
  pub others : AreRowsOfOthers at (inputs_of names) start front c.before.shelf c.after.shelf
  pub given : AreGiven others.run.asks
  pub no_fault : fault_in (setting_of_resumed others.run.plan names start front) (front ++ others.run.journal) ≡ None
  pub trace : AreTraced c others.run.journal
  pub out : Wrote (grown c.before.out (verdicts_of names start front c others.run)) c.after.out (end_text (UnreadableSource at))

-- the trace was cut within the line of a row, and no step before it has a fault: the verdicts of all rows before it were put
pub record IsCutInTraceBehind (s : Setting) (front : List Entry) (before after : Outside) (journal : List Entry) : Type 0 where
  pub no_fault : settled_fault_in s (front ++ journal) ≡ None
  pub trace : IsCutInLine s.plan before.trace after.trace journal
  pub out : after.out ≡ grown before.out (settled_behind s front journal)

-- the verdicts of the last row were cut, and no step so far has a fault: that row is traced, as all before it
pub record IsCutInRowBehind (s : Setting) (front : List Entry) (before after : Outside) (journal : List Entry) : Type 0 where
  pub no_fault : settled_fault_in s (front ++ journal) ≡ None
  pub trace : after.trace ≡ grown before.trace (trace_text journal)
  pub out : IsCutAtRowBehind s front before.out after.out journal

-- the verdicts of the deadlines at the last stamp were cut, and no step has a fault: each source was read to its end or has failed
pub record IsCutInDeadlineBehind (s : Setting) (front : List Entry) (sources : List (List ℕ)) (asks : List Ask) (before after : Outside) (journal : List Entry) : Type 0 where
  pub no_fault : fault_in s (front ++ journal) ≡ None
  pub read : AllRead before.shelf s.plan sources asks journal
  pub trace : after.trace ≡ grown before.trace (trace_text journal)
  pub out : IsCutAtDeadlineBehind s front before.out after.out journal

-- where a run was cut before its end line
abbrev pub CutsOffBehind : Setting → List Entry → List (List ℕ) → List Ask → Outside → Outside → List Entry → Type 0
CutsOffBehind s front sources asks before after journal =
    IsCutInTraceBehind s front before after journal ⊎ (IsCutInRowBehind s front before after journal ⊎ IsCutInDeadlineBehind s front sources asks before after journal)

-- 7: a put of a trace line or of verdicts failed
pub record IsCutOffBehind (names : Resumption) (start : Option ℕ) (front : List Entry) (c : Call) : Type 0 where
  pub run : RowsBehind names start front c
  pub given : WereGiven names.sources run.asks c.before.shelf c.after.shelf
  pub cut : CutsOffBehind (setting_of_resumed run.plan names start front) front names.sources run.asks c.before c.after run.journal

-- 7: the end line was cut of a run that is done but for it
pub record IsCutDoneBehind (names : Resumption) (start : Option ℕ) (front : List Entry) (c : Call) : Type 0 where
  pub all : AreAllRows (inputs_of names) start front c.before.shelf c.after.shelf
  pub no_fault : fault_in (setting_of_resumed all.run.plan names start front) (front ++ all.run.journal) ≡ None
  pub trace : AreTraced c all.run.journal
  pub out : PutBroke (grown c.before.out (verdicts_of names start front c all.run)) c.after.out
      (end_text (done_line_behind (setting_of_resumed all.run.plan names start front) front all.run.journal))

-- 7: the end line was cut of a run some source of which has a malformed line
pub record IsCutMalformedBehind (names : Resumption) (start : Option ℕ) (front : List Entry) (c : Call) : Type 0 where
  pub at : MalformedSource
  pub some : AreRowsBeforeMalformed at (inputs_of names) start front c.before.shelf c.after.shelf
  pub no_fault : fault_in (setting_of_resumed some.run.plan names start front) (front ++ some.run.journal) ≡ None
  pub trace : AreTraced c some.run.journal
  pub out : PutBroke (grown c.before.out (verdicts_of names start front c some.run)) c.after.out (end_text (malformed_line at))

-- 7: a put of a run failed
abbrev pub IsBrokenBehind : Resumption → Option ℕ → List Entry → Call → Type 0
IsBrokenBehind names start front c = IsCutOffBehind names start front c ⊎ (IsCutDoneBehind names start front c ⊎ IsCutMalformedBehind names start front c)

-- 8: there was no memory. The trace has the lines of the rows that were taken, and nothing else; the sink has a front of their
-- verdicts, or all, and no end line
pub record IsUnfinishedBehind (names : Resumption) (start : Option ℕ) (front : List Entry) (c : Call) : Type 0 where
  pub run : RowsBehind names start front c
  pub trace : AreTraced c run.journal
  pub out : HasFrontBehind (setting_of_resumed run.plan names start front) front c.before.out c.after.out run.journal
      ⊎ (c.after.out ≡ grown c.before.out (verdicts_of names start front c run))

-- what a run leaves that goes on from a state, by its status
pub record EndedResumed (status : ℕ) (names : Resumption) (c : Call) : Type 0 where
  pub done : status ≡ 0 → Behind IsDoneBehind names c
  pub refused : status ≡ 3 → IsRefusedNamed names.specification c
  pub malformed : status ≡ 4 → Behind IsMalformedBehind names c
  pub fault : status ≡ 5 → Behind IsFaultBehind names c
  pub unreadable : status ≡ 6 → IsUnreadNamed c ⊎ (IsSourceNotGiven names c ⊎ Behind IsCutShortBehind names c)
  pub broken : status ≡ 7 → Behind IsBrokenBehind names c
  pub memory : status ≡ 8 → IsEarly c ⊎ Behind IsUnfinishedBehind names c
  pub state : status ≡ 9 → IsStateRefused names.specification names.state c
  pub cause : HasCause status (inputs_of names) c
  pub others : (status ≡ 0) ⊎ ((3 ≤ status) × (status ≤ 9))

-- such a run over a state of a journal, of sources that end well, whose rows, those that the trace received, have no fault behind it, and
-- whose objects have not failed
pub record IsCleanResumed (names : Resumption) (c : Call) : Type 0 where
  pub read : IsReadable names.specification c
  pub start : Option ℕ
  pub front : List Entry
  pub is_front : IsFrontIn c.before.shelf names.specification names.state start front
  pub sources : AreWellTold c.before.shelf read.text names.sources
  pub no_fault : (run : RowsBehind names start front c) → AreTraced c run.journal → fault_in (setting_of_resumed run.plan names start front) (front ++ run.journal) ≡ None
  pub out : Rose c.before.out.count c.after.out.count → ⊥
  pub trace : Rose c.before.trace.count c.after.trace.count → ⊥

-- which statuses such a call can have by what it was given: nothing but want of memory keeps it from its answer
pub record DecidedResumed (status : ℕ) (names : Resumption) (c : Call) : Type 0 where
  pub run : IsCleanResumed names c → (status ≡ 0) ⊎ (status ≡ 8)
  pub refused : IsSpoiledNamed names.specification c → (status ≡ 3) ⊎ (status ≡ 8)
  pub state : IsBadState names.specification names.state c → (status ≡ 9) ⊎ (status ≡ 8)
