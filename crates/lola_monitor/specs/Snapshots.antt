-- What a snapshot leaves, by its status: the state of the rows of its sources, behind the journal whose state it goes on from.
use Rattle.std.specs.Prelude.{ℕ, ◌≡◌, ◌⊎◌, ◌<◌, ◌≤◌, true, List, [], ◌++◌, Option, Some, None, length}
use Rattle.lola_port.specs.States.{PutBroke, Rose, ShelfState, grown}
use Rattle.lola_model.specs.Faults.{RunFault}
use Rattle.lola_model.specs.Journal.{accepted, known_start}
use Rattle.lola_model.specs.Runs.{settled_model}
use Rattle.lola_model.specs.declared.journal.Entry.{Entry}
use Rattle.lola_model.specs.declared.journal.Show.TheVariants as show
use Rattle.lola_model.specs.declared.plan.Plan.{Plan}
use Rattle.lola_report.specs.Ends.{end_text}
use Rattle.lola_report.specs.declared.end.EndLine.TheVariants.{UnreadableSource}
use Rattle.lola_save.specs.StateEnds.{state_end_text}
use Rattle.lola_save.specs.declared.end.StateEnd.TheVariants as state_end
use Rattle.lola_save_text.specs.JournalStates.{state_of}
use Rattle.lola_save_text.specs.Fitting.{most_steps}
use Rattle.lola_save_text.specs.Lines.{state_text}
use Rattle.lola_monitor_run.specs.Behind.{IsRowFaultBehind}
use Rattle.lola_monitor_run.specs.Verdicts.{Setting, settled_fault_in}
use Rattle.lola_monitor.specs.Causes.{AllReadWell, HasCause}
use Rattle.lola_monitor.specs.Command.{SnapshotNames}
use Rattle.lola_monitor.specs.LongStates.{IsLongState}
use Rattle.lola_monitor.specs.Monitor.{Call, IsEarly, IsUntraced, MalformedSource, WereGiven, Wrote, fault_line}
use Rattle.lola_monitor.specs.Pasts.{AreAllRows, AreRowsBeforeMalformed, AreRowsOfOthers, AreWellTold, Inputs, IsBadState, IsFrontIn, IsReadable, IsRefusedNamed, IsSpoiledNamed, IsStateRefused, IsUnreadNamed, RanBehind, malformed_line, setting_behind}

-- what its rows are taken of
abbrev pub inputs_of : SnapshotNames → Inputs
inputs_of names = record { specification = names.specification; state = names.state; sources = names.sources; in_turns = true }

-- the journal that others took before it: none, or one whose state it goes on from
abbrev pub IsPast : SnapshotNames → ShelfState → Option (List ℕ) → Option ℕ → List Entry → Type 0
IsPast names shelf None start front = (start ≡ names.start) × (front ≡ [])
IsPast names shelf (Some state) start front = IsFrontIn shelf names.specification state start front

-- whatever journal that was
abbrev pub Behind : (SnapshotNames → Option ℕ → List Entry → Call → Type 0) → SnapshotNames → Call → Type 0
Behind P names c = (start : Option ℕ) (front : List Entry) → IsPast names c.before.shelf names.state start front → P names start front c

abbrev pub RowsBehind : SnapshotNames → Option ℕ → List Entry → Call → Type 0
RowsBehind names start front c = RanBehind (inputs_of names) start front c.before.shelf c.after.shelf

-- what decides a journal's steps behind another
abbrev pub steps_setting : Plan → Option ℕ → List Entry → Setting
steps_setting plan start front = setting_behind plan show.Triggers start front

-- the text of the state of both journals, for this text of a specification
abbrev pub saved_text : List ℕ → Plan → Option ℕ → List Entry → List Entry → List ℕ
saved_text text plan start front journal = state_text text plan (state_of plan (known_start start (accepted front)) (front ++ journal))

-- the sources were read to their ends, each of which is well, and no step before the deadlines at the last stamp has a fault
pub record IsSnapshot (names : SnapshotNames) (start : Option ℕ) (front : List Entry) (c : Call) : Type 0 where
  pub all : AreAllRows (inputs_of names) start front c.before.shelf c.after.shelf
  pub no_fault : settled_fault_in (steps_setting all.run.plan start front) (front ++ all.run.journal) ≡ None
  pub trace : IsUntraced c

abbrev pub steps_in : (names : SnapshotNames) (start : Option ℕ) (front : List Entry) (c : Call) → IsSnapshot names start front c → ℕ
steps_in names start front c snapshot = length (settled_model snapshot.all.run.plan (known_start start (accepted front)) (front ++ snapshot.all.run.journal))

-- 0: the state was put, and nothing else
pub record IsSaved (names : SnapshotNames) (start : Option ℕ) (front : List Entry) (c : Call) : Type 0 where
  pub snapshot : IsSnapshot names start front c
  pub few : steps_in names start front c snapshot ≤ most_steps
  pub out : (text : List ℕ) → c.before.shelf.told names.specification ≡ Some text → c.after.out ≡ grown c.before.out (saved_text text snapshot.all.run.plan start front snapshot.all.run.journal)

-- 4: some source has a malformed line, and no state is put
pub record IsMalformedSnapshot (names : SnapshotNames) (start : Option ℕ) (front : List Entry) (c : Call) : Type 0 where
  pub at : MalformedSource
  pub some : AreRowsBeforeMalformed at (inputs_of names) start front c.before.shelf c.after.shelf
  pub no_fault : settled_fault_in (steps_setting some.run.plan start front) (front ++ some.run.journal) ≡ None
  pub trace : IsUntraced c
  pub out : c.after.out ≡ grown c.before.out (end_text (malformed_line at))

-- 5: the step of the last row that was taken, or of a deadline before it, has a fault
pub record IsFaultSnapshot (names : SnapshotNames) (start : Option ℕ) (front : List Entry) (c : Call) : Type 0 where
  pub run : RowsBehind names start front c
  pub given : WereGiven names.sources run.asks c.before.shelf c.after.shelf
  pub fault : RunFault
  pub is_fault : IsRowFaultBehind (steps_setting run.plan start front) front run.journal fault
  pub trace : IsUntraced c
  pub out : Wrote c.before.out c.after.out (end_text (fault_line run.plan fault))

-- 6: a source was not given, or could not be read
pub record IsCutShortSnapshot (names : SnapshotNames) (start : Option ℕ) (front : List Entry) (c : Call) : Type 0 where
  pub at : ℕ
  pub others : AreRowsOfOthers at (inputs_of names) start front c.before.shelf c.after.shelf
  pub no_fault : settled_fault_in (steps_setting others.run.plan start front) (front ++ others.run.journal) ≡ None
  pub trace : IsUntraced c
  pub out : Wrote c.before.out c.after.out (end_text (UnreadableSource at))

-- 7: the put of the state failed
pub record IsCutState (names : SnapshotNames) (start : Option ℕ) (front : List Entry) (c : Call) : Type 0 where
  pub snapshot : IsSnapshot names start front c
  pub few : steps_in names start front c snapshot ≤ most_steps
  pub out : (text : List ℕ) → c.before.shelf.told names.specification ≡ Some text → PutBroke c.before.out c.after.out (saved_text text snapshot.all.run.plan start front snapshot.all.run.journal)

-- 7: the end line was cut of a snapshot some source of which has a malformed line
pub record IsCutMalformedSnapshot (names : SnapshotNames) (start : Option ℕ) (front : List Entry) (c : Call) : Type 0 where
  pub at : MalformedSource
  pub some : AreRowsBeforeMalformed at (inputs_of names) start front c.before.shelf c.after.shelf
  pub no_fault : settled_fault_in (steps_setting some.run.plan start front) (front ++ some.run.journal) ≡ None
  pub trace : IsUntraced c
  pub out : PutBroke c.before.out c.after.out (end_text (malformed_line at))

abbrev pub IsBrokenSnapshot : SnapshotNames → Option ℕ → List Entry → Call → Type 0
IsBrokenSnapshot names start front c = IsCutState names start front c ⊎ IsCutMalformedSnapshot names start front c

-- 9: all came to be saved, but there are more steps than a state can have
pub record HasTooManySteps (names : SnapshotNames) (start : Option ℕ) (front : List Entry) (c : Call) : Type 0 where
  pub snapshot : IsSnapshot names start front c
  pub many : most_steps < steps_in names start front c snapshot
  pub out : Wrote c.before.out c.after.out (state_end_text state_end.TooManySteps)

-- 9: all sources were read to their ends, which are well, and the state that it goes on from has nearly as many steps as one can have
pub record IsLongEnd (names : SnapshotNames) (c : Call) : Type 0 where
  pub all : AllReadWell (inputs_of names) c.before.shelf c.after.shelf
  pub state : IsLongState names.state c.before.shelf
  pub out : Wrote c.before.out c.after.out (state_end_text state_end.TooManySteps)

-- 9: the state that it goes on from is refused
abbrev pub IsStateRefusedIn : SnapshotNames → Option (List ℕ) → Call → Type 0
IsStateRefusedIn names None c = ⊥
IsStateRefusedIn names (Some state) c = IsStateRefused names.specification state c

-- what a snapshot leaves, by its status
pub record EndedSnapshot (status : ℕ) (names : SnapshotNames) (c : Call) : Type 0 where
  pub done : status ≡ 0 → Behind IsSaved names c
  pub refused : status ≡ 3 → IsRefusedNamed names.specification c
  pub malformed : status ≡ 4 → Behind IsMalformedSnapshot names c
  pub fault : status ≡ 5 → Behind IsFaultSnapshot names c
  pub unreadable : status ≡ 6 → IsUnreadNamed c ⊎ Behind IsCutShortSnapshot names c
  pub broken : status ≡ 7 → Behind IsBrokenSnapshot names c
  pub memory : status ≡ 8 → IsEarly c
  pub state : status ≡ 9 → IsStateRefusedIn names names.state c ⊎ (IsLongEnd names c × Behind HasTooManySteps names c)
  pub cause : HasCause status (inputs_of names) c
  pub others : (status ≡ 0) ⊎ ((3 ≤ status) × (status ≤ 9))

-- a snapshot behind a journal, of sources that end well, whose rows have no fault behind it, and whose objects have not failed
pub record IsCleanSnapshot (names : SnapshotNames) (c : Call) : Type 0 where
  pub read : IsReadable names.specification c
  pub start : Option ℕ
  pub front : List Entry
  pub is_past : IsPast names c.before.shelf names.state start front
  pub sources : AreWellTold c.before.shelf read.text names.sources
  pub no_fault : (run : RowsBehind names start front c) → settled_fault_in (steps_setting run.plan start front) (front ++ run.journal) ≡ None
  pub out : Rose c.before.out.count c.after.out.count → ⊥

-- how many steps the journal of its rows has behind that one
abbrev pub steps_with : (names : SnapshotNames) (start : Option ℕ) (front : List Entry) (c : Call) → RowsBehind names start front c → ℕ
steps_with names start front c run = length (settled_model run.plan (known_start start (accepted front)) (front ++ run.journal))

-- the state that it goes on from is none
abbrev pub IsBadStateIn : SnapshotNames → Option (List ℕ) → Call → Type 0
IsBadStateIn names None c = ⊥
IsBadStateIn names (Some state) c = IsBadState names.specification state c

-- which statuses a snapshot can have by what it was given
pub record DecidedSnapshot (status : ℕ) (names : SnapshotNames) (c : Call) : Type 0 where
  pub snapshot : (clean : IsCleanSnapshot names c) → ((run : RowsBehind names clean.start clean.front c) → steps_with names clean.start clean.front c run ≤ most_steps)
      → (status ≡ 0) ⊎ (status ≡ 8)
  pub too_long : (clean : IsCleanSnapshot names c) → ((run : RowsBehind names clean.start clean.front c) → most_steps < steps_with names clean.start clean.front c run)
      → (status ≡ 9) ⊎ (status ≡ 8)
  pub refused : IsSpoiledNamed names.specification c → (status ≡ 3) ⊎ (status ≡ 8)
  pub state : IsBadStateIn names names.state c → (status ≡ 9) ⊎ (status ≡ 8)
