-- Why a run that goes on from a state, or a snapshot, ended so, whether or not any journal has that state: how its sources end, what was not
-- given or not read, and whether a put failed.
use Rattle.std.specs.Prelude.{◌≡◌, ◌⊎◌, ℕ, List, ◌++◌, None, Option, Some, length, map, slice_get}
use Rattle.lola_port.specs.Asks.{given_ask}
use Rattle.lola_port.specs.States.{Rose, ShelfState, grown}
use Rattle.lola_port.specs.declared.traits.Ask.{Ask}
use Rattle.lola_model.specs.declared.plan.Plan.{Plan}
use Rattle.lola_report.specs.Ends.{end_text}
use Rattle.lola_report.specs.declared.end.EndLine.{EndLine}
use Rattle.lola_report.specs.declared.end.EndLine.TheVariants.{Done, Usage, Refused, Malformed, Fault, UnreadableSpecification, UnreadableSource, Analysed}
use Rattle.lola_rows.specs.Rows.{SourceEnd}
use Rattle.lola_save.specs.declared.end.StateEnd.TheVariants as state_end
use Rattle.lola_monitor_run.specs.Running.{Received}
use Rattle.lola_monitor.specs.LongStates.{IsLongState}
use Rattle.lola_monitor.specs.Monitor.{Call, MalformedSource, Outside, Plans, Wrote, asks_between, first_failed_ask, first_malformed, source_rows}
use Rattle.lola_monitor.specs.Pasts.{AllGivenIn, Inputs, IsUnreadNamed, malformed_line, texts_of}
use Rattle.lola_monitor.specs.declared.call_end.CallEnd.{CallEnd}
use Rattle.lola_monitor.specs.declared.call_end.CallEnd.TheVariants.{Line, Drilled, Report, Replayed, Stated, CutFault, Put, Memory}

-- source s, where it tells its bytes, ends so
abbrev pub EndsSo : Option (List ℕ) → Plan → ℕ → SourceEnd → Type 0
EndsSo told plan s end = (bytes : List ℕ) → told ≡ Some bytes → (source_rows plan s bytes).end ≡ end

-- these are the ends of the sources
pub record HaveEnds (shelf : ShelfState) (plan : Plan) (sources : List (List ℕ)) (ends : List SourceEnd) : Type 0 where
  pub many : length ends ≡ length sources
  pub each : (s : ℕ) (name : List ℕ) (end : SourceEnd) → slice_get sources s ≡ Some name → slice_get ends s ≡ Some end → EndsSo (shelf.told name) plan s end

-- no put has failed
pub record AreWhole (before after : Outside) : Type 0 where
  pub out : Received before.out after.out
  pub trace : Received before.trace after.trace

-- a put to the one or the other has failed
abbrev pub HasFailedPut : Outside → Outside → Type 0
HasFailedPut before after = Rose before.out.count after.out.count ⊎ Rose before.trace.count after.trace.count

-- ---- of the sources of a run

-- all names were given and all sources are back, none of which has failed
pub record AllHome (names : List (List ℕ)) (before after : ShelfState) : Type 0 where
  pub asks : after.asks ≡ before.asks ++ map given_ask names
  pub count : after.count ≡ before.count
  pub out : after.out ≡ before.out

-- all sources were given, none has failed, and these are their ends
pub record SourcesRead (ends : List SourceEnd) (plan : Plan) (names : List (List ℕ)) (before after : Outside) : Type 0 where
  pub home : AllHome names before.shelf after.shelf
  pub ended : HaveEnds before.shelf plan names ends
  pub whole : AreWhole before after

-- each of them ends well
pub record SourcesWell (plan : Plan) (names : List (List ℕ)) (before after : Outside) : Type 0 where
  pub ends : List SourceEnd
  pub read : SourcesRead ends plan names before after
  pub none : first_malformed ends ≡ None

-- the least of them that has a malformed line is named
pub record SourcesMalformed (line : EndLine) (plan : Plan) (names : List (List ℕ)) (before after : Outside) : Type 0 where
  pub ends : List SourceEnd
  pub read : SourcesRead ends plan names before after
  pub at : MalformedSource
  pub least : first_malformed ends ≡ Some at
  pub line_is : line ≡ malformed_line at

-- the least of them that was not given, or could not be read to its end, is named
pub record SourcesUnread (line : EndLine) (before after : Outside) : Type 0 where
  pub asks : List Ask
  pub appended : after.shelf.asks ≡ before.shelf.asks ++ asks
  pub at : ℕ
  pub least : first_failed_ask asks ≡ Some at
  pub rose : Rose before.shelf.count after.shelf.count
  pub whole : AreWhole before after
  pub line_is : line ≡ UnreadableSource at

-- why the rows of sources ended so
abbrev pub SourcesCause : CallEnd → Plan → List (List ℕ) → Outside → Outside → Type 0
SourcesCause (Line (Done a l n v)) plan names before after = SourcesWell plan names before after
SourcesCause (Line (Malformed n row kind)) plan names before after = SourcesMalformed (Malformed n row kind) plan names before after
SourcesCause (Line (Fault stream kind time)) plan names before after = AreWhole before after
SourcesCause (Line (UnreadableSource n)) plan names before after = SourcesUnread (UnreadableSource n) before after
SourcesCause (Line Usage) plan names before after = AreWhole before after
SourcesCause (Line (Refused r)) plan names before after = AreWhole before after
SourcesCause (Line UnreadableSpecification) plan names before after = AreWhole before after
SourcesCause (Line (Analysed n w)) plan names before after = AreWhole before after
SourcesCause (Drilled line) plan names before after = AreWhole before after
SourcesCause (Report text) plan names before after = SourcesWell plan names before after
SourcesCause (Replayed end) plan names before after = AreWhole before after
SourcesCause (Stated state_end.Unreadable) plan names before after = AreWhole before after
SourcesCause (Stated (state_end.Damaged line)) plan names before after = AreWhole before after
SourcesCause (Stated state_end.OtherSpecification) plan names before after = AreWhole before after
SourcesCause (Stated state_end.TooManySteps) plan names before after = SourcesWell plan names before after
SourcesCause CutFault plan names before after = Rose before.out.count after.out.count × Received before.trace after.trace
SourcesCause Put plan names before after = HasFailedPut before after
SourcesCause Memory plan names before after = Unit {0}

-- ---- of a whole call, before its last line

-- the specification was read and has a plan, all texts and all sources were given, nothing has failed, and these are the sources' ends
pub record AllReadTo (ends : List SourceEnd) (inputs : Inputs) (before after : ShelfState) : Type 0 where
  pub plan : Plan
  pub is_plan : Plans (before.told inputs.specification) plan
  pub given : AllGivenIn inputs before after
  pub ended : HaveEnds before plan inputs.sources ends

-- each ends well
pub record AllReadWell (inputs : Inputs) (before after : ShelfState) : Type 0 where
  pub ends : List SourceEnd
  pub read : AllReadTo ends inputs before after
  pub none : first_malformed ends ≡ None

-- the least that has a malformed line is this
pub record SomeReadMalformed (at : MalformedSource) (inputs : Inputs) (before after : ShelfState) : Type 0 where
  pub ends : List SourceEnd
  pub read : AllReadTo ends inputs before after
  pub least : first_malformed ends ≡ Some at

-- all texts were given and read, and the least source that was not given, or could not be read to its end, is this
pub record SomeUnread (at : ℕ) (inputs : Inputs) (before after : ShelfState) : Type 0 where
  pub asks : List Ask
  pub between : asks_between before after ≡ map given_ask (texts_of inputs) ++ asks
  pub least : first_failed_ask asks ≡ Some at
  pub rose : Rose before.count after.count

pub record StoodWell (inputs : Inputs) (before after : Outside) : Type 0 where
  pub well : AllReadWell inputs before.shelf after.shelf
  pub whole : AreWhole before after

pub record StoodMalformedSource (line : EndLine) (inputs : Inputs) (before after : Outside) : Type 0 where
  pub at : MalformedSource
  pub some : SomeReadMalformed at inputs before.shelf after.shelf
  pub whole : AreWhole before after
  pub line_is : line ≡ malformed_line at

pub record StoodUnreadSource (line : EndLine) (inputs : Inputs) (before after : Outside) : Type 0 where
  pub at : ℕ
  pub some : SomeUnread at inputs before.shelf after.shelf
  pub whole : AreWhole before after
  pub line_is : line ≡ UnreadableSource at

-- why the call ends so
abbrev pub Causes : CallEnd → Inputs → Outside → Outside → Type 0
Causes (Line (Done a l n v)) inputs before after = StoodWell inputs before after
Causes (Line (Malformed n row kind)) inputs before after = StoodMalformedSource (Malformed n row kind) inputs before after
Causes (Line (Fault stream kind time)) inputs before after = AreWhole before after
Causes (Line (UnreadableSource n)) inputs before after = StoodUnreadSource (UnreadableSource n) inputs before after
Causes (Line Usage) inputs before after = AreWhole before after
Causes (Line (Refused r)) inputs before after = AreWhole before after
Causes (Line UnreadableSpecification) inputs before after = AreWhole before after
Causes (Line (Analysed n w)) inputs before after = AreWhole before after
Causes (Drilled line) inputs before after = AreWhole before after
Causes (Report text) inputs before after = StoodWell inputs before after
Causes (Replayed end) inputs before after = AreWhole before after
Causes (Stated state_end.Unreadable) inputs before after = AreWhole before after
Causes (Stated (state_end.Damaged line)) inputs before after = AreWhole before after
Causes (Stated state_end.OtherSpecification) inputs before after = AreWhole before after
Causes (Stated state_end.TooManySteps) inputs before after = StoodWell inputs before after
Causes CutFault inputs before after = Rose before.out.count after.out.count × Received before.trace after.trace
Causes Put inputs before after = HasFailedPut before after
Causes Memory inputs before after = Unit {0}

-- ---- of a whole call

-- 0: all sources were given and end well, and nothing has failed
pub record IsWell (inputs : Inputs) (c : Call) : Type 0 where
  pub well : AllReadWell inputs c.before.shelf c.after.shelf
  pub out : Received c.before.out c.after.out

-- 4: all sources were given, nothing has failed, and the end line names the least that has a malformed line
pub record HasMalformedSource (inputs : Inputs) (c : Call) : Type 0 where
  pub at : MalformedSource
  pub some : SomeReadMalformed at inputs c.before.shelf c.after.shelf
  pub text : List ℕ
  pub out : c.after.out ≡ grown c.before.out (text ++ end_text (malformed_line at))

-- 6: the end line names the least source that was not given, or could not be read to its end
pub record HasUnreadSource (inputs : Inputs) (c : Call) : Type 0 where
  pub at : ℕ
  pub some : SomeUnread at inputs c.before.shelf c.after.shelf
  pub text : List ℕ
  pub out : Wrote (grown c.before.out text) c.after.out (end_text (UnreadableSource at))

-- 9: the state was refused before any source was asked for, or all sources were given and end well, and there are too many steps for a state:
-- it had nearly as many as one can have
abbrev pub IsRefusedOrLong : Inputs → Call → Type 0
IsRefusedOrLong inputs c = (asks_between c.before.shelf c.after.shelf ≡ map given_ask (texts_of inputs)) ⊎ (AllReadWell inputs c.before.shelf c.after.shelf × IsLongState inputs.state c.before.shelf)

-- the causes of a status, by what the call was given and by what failed; 3 has its own, and so have 5 and 9 where a journal has the state
pub record HasCause (status : ℕ) (inputs : Inputs) (c : Call) : Type 0 where
  pub done : status ≡ 0 → IsWell inputs c
  pub malformed : status ≡ 4 → HasMalformedSource inputs c
  pub unreadable : status ≡ 6 → IsUnreadNamed c ⊎ HasUnreadSource inputs c
  pub broken : status ≡ 7 → HasFailedPut c.before c.after
  pub state : status ≡ 9 → IsRefusedOrLong inputs c
  pub trace : (status ≡ 7 → ⊥) → (status ≡ 8 → ⊥) → Received c.before.trace c.after.trace
