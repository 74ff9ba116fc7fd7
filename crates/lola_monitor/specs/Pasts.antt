-- What calls are told of that go on from a saved state, and the rows that they take behind the journal whose state it is.
use Rattle.std.specs.Prelude.{ℕ, ◌≡◌, ◌⊎◌, ◌-◌, Bool, true, false, List, [], ◌∷◌, ◌++◌, Option, Some, None, length, map, slice_get}
use Rattle.std.specs.Option.{option_to_list}
use Rattle.lola_port.specs.Asks.{given_ask}
use Rattle.lola_port.specs.States.{Rose, ShelfState}
use Rattle.lola_port.specs.declared.traits.Ask.{Ask}
use Rattle.lola_value.specs.declared.front.Refusal.{Refusal}
use Rattle.lola_model.specs.Acceptance.{IsAccepted}
use Rattle.lola_model.specs.Journal.{IsLegal, accepted, known_start, rows_of}
use Rattle.lola_model.specs.Runs.{final_lines, settled_fault, settled_lines, settled_model, whole_model}
use Rattle.lola_model.specs.declared.plan.Plan.{Plan}
use Rattle.lola_model.specs.declared.journal.Entry.{Entry}
use Rattle.lola_model.specs.declared.journal.Show.{Show}
use Rattle.lola_front.specs.Front.{IsPlanOf, IsRefusalOf}
use Rattle.lola_rows.specs.Rows.{SourceEnd, Whole}
use Rattle.lola_report.specs.Ends.{end_text}
use Rattle.lola_report.specs.declared.end.EndLine.{EndLine}
use Rattle.lola_report.specs.declared.end.EndLine.TheVariants.{Done, Malformed, Refused, UnreadableSpecification}
use Rattle.lola_save.specs.StateEnds.{IsRefusedState, state_end_text}
use Rattle.lola_save.specs.declared.end.StateEnd.{StateEnd}
use Rattle.lola_save.specs.declared.end.StateEnd.TheVariants as state_end
use Rattle.lola_save_text.specs.JournalStates.{IsJournalOf, state_of}
use Rattle.lola_save_text.specs.Damage.{IsStateText}
use Rattle.lola_save_text.specs.Lines.{state_text}
use Rattle.lola_monitor_run.specs.Verdicts.{AreOfSources, AreTraceable, Setting, late_count}
use Rattle.lola_monitor.specs.Monitor.{AllBegin, AllEnd, AllRead, AreGiven, Call, Ends, GoInTurns, HasItsModels, IsRefusedBy, IsUntraced, MalformedSource, Plans, WereGiven, Wrote, asks_between, first_failed_ask, first_malformed, source_rows}

-- a run of a plan can have taken this journal without a fault, and these bytes are the text of its state
pub record IsSavedAs (specification : List ℕ) (plan : Plan) (bytes : List ℕ) (start : Option ℕ) (front : List Entry) : Type 0 where
  pub of : IsJournalOf plan start front
  pub fine : settled_fault plan start front ≡ None
  pub text : bytes ≡ state_text specification plan (state_of plan start front)

-- a shelf tells a specification and a state, which is that of this start option and this journal
pub record IsFrontIn (shelf : ShelfState) (specification state : List ℕ) (start : Option ℕ) (front : List Entry) : Type 0 where
  pub text : List ℕ
  pub text_is : shelf.told specification ≡ Some text
  pub bytes : List ℕ
  pub bytes_are : shelf.told state ≡ Some bytes
  pub saved : (plan : Plan) → IsPlanOf text plan → IsSavedAs text plan bytes start front

-- what decides a journal's lines behind another: where time begins is known of that, or told
abbrev pub setting_behind : Plan → Show → Option ℕ → List Entry → Setting
setting_behind plan show start front = record { plan = plan; start = known_start start (accepted front); show = show }

-- the last line of a run that ends well behind a journal: how many of its own rows were accepted and late, of its own steps run and of
-- its own lines written
abbrev pub done_line_behind : Setting → List Entry → List Entry → EndLine
done_line_behind s front journal =
    Done (length (accepted journal)) (late_count journal) (length (whole_model s.plan s.start (front ++ journal)) - length (settled_model s.plan s.start front))
    (length (final_lines s.plan s.start (front ++ journal) s.show) - length (settled_lines s.plan s.start front s.show))

-- what rows are taken of: the texts that are asked for first, the sources, and whether these are read in turns
pub record Inputs : Type 0 where
  pub specification : List ℕ
  pub state : Option (List ℕ)
  pub sources : List (List ℕ)
  pub in_turns : Bool

abbrev pub texts_of : Inputs → List (List ℕ)
texts_of inputs = inputs.specification ∷ option_to_list inputs.state

-- in the order of fetching
abbrev pub names_in : Inputs → List (List ℕ)
names_in inputs = texts_of inputs ++ inputs.sources

-- rows were taken behind a journal, under a specification that was given, read and accepted, so that it has one model. Both together are
-- legal, and each entry is one that a line of the trace can tell; the rows are the first of the sources. Where there is a row, all
-- sources were given
pub record RanBehind (inputs : Inputs) (start : Option ℕ) (front : List Entry) (before after : ShelfState) : Type 0 where
  pub asks : List Ask
  pub between : asks_between before after ≡ map given_ask (texts_of inputs) ++ asks
  pub plan : Plan
  pub is_plan : Plans (before.told inputs.specification) plan
  pub journal : List Entry
  pub legal : IsLegal (known_start start (accepted front)) (front ++ journal)
  pub accepted : IsAccepted plan
  pub one_model : HasItsModels plan
  pub sources : AreOfSources (length inputs.sources) journal
  pub traceable : AreTraceable plan journal
  pub rows : AllBegin before plan inputs.sources journal
  pub turns : inputs.in_turns ≡ true → GoInTurns inputs.sources plan before after journal
  pub given : (journal ≡ []) ⊎ WereGiven inputs.sources asks before after

-- all texts and all sources were given, and nothing has failed
pub record AllGivenIn (inputs : Inputs) (before after : ShelfState) : Type 0 where
  pub asks : asks_between before after ≡ map given_ask (names_in inputs)
  pub count : after.count ≡ before.count

-- the rows that were taken are all rows of the sources, each of which ends well
pub record AreAllRows (inputs : Inputs) (start : Option ℕ) (front : List Entry) (before after : ShelfState) : Type 0 where
  pub run : RanBehind inputs start front before after
  pub given : AllGivenIn inputs before after
  pub rows : (s : ℕ) (name : List ℕ) → slice_get inputs.sources s ≡ Some name → Ends (before.told name) run.plan s (rows_of s run.journal) Whole

-- they are all rows of the sources before their malformed lines, and the least source that has one is this
pub record AreRowsBeforeMalformed (at : MalformedSource) (inputs : Inputs) (start : Option ℕ) (front : List Entry) (before after : ShelfState) : Type 0 where
  pub run : RanBehind inputs start front before after
  pub given : AllGivenIn inputs before after
  pub ends : List SourceEnd
  pub rows : AllEnd before run.plan inputs.sources run.journal ends
  pub least : first_malformed ends ≡ Some at

abbrev pub malformed_line : MalformedSource → EndLine
malformed_line at = Malformed at.source at.row at.kind

-- a source was not given, and no row was taken; or some could not be read to their ends, and of the others all rows were taken. The
-- least of these sources is this
pub record AreRowsOfOthers (at : ℕ) (inputs : Inputs) (start : Option ℕ) (front : List Entry) (before after : ShelfState) : Type 0 where
  pub run : RanBehind inputs start front before after
  pub least : first_failed_ask run.asks ≡ Some at
  pub rose : Rose before.count after.count
  pub unless_given : (s : ℕ) (ask : Ask) → slice_get run.asks s ≡ Some ask → ask.given ≡ false → run.journal ≡ []
  pub read : AreGiven run.asks → (map (λ ask. ask.name) run.asks ≡ inputs.sources) × AllRead before run.plan inputs.sources run.asks run.journal

-- ---- before any row

-- 3: the specification was read, and is refused
pub record IsRefusedNamed (name : List ℕ) (c : Call) : Type 0 where
  pub refusal : Refusal
  pub cause : IsRefusedBy (c.before.shelf.told name) refusal
  pub asks : asks_between c.before.shelf c.after.shelf ≡ given_ask name ∷ []
  pub count : c.after.shelf.count ≡ c.before.shelf.count
  pub trace : IsUntraced c
  pub out : Wrote c.before.out c.after.out (end_text (Refused refusal))

-- 6: of the texts that are asked for first the one at this place was not given, or could not be read
pub record IsUnreadAt (place : ℕ) (line : List ℕ) (c : Call) : Type 0 where
  pub has_failed : first_failed_ask (asks_between c.before.shelf c.after.shelf) ≡ Some place
  pub rose : Rose c.before.shelf.count c.after.shelf.count
  pub trace : IsUntraced c
  pub out : Wrote c.before.out c.after.out line

-- 6: the specification, or the state
abbrev pub IsUnreadNamed : Call → Type 0
IsUnreadNamed c = IsUnreadAt 0 (end_text UnreadableSpecification) c ⊎ IsUnreadAt 1 (state_end_text state_end.Unreadable) c

-- where both are told, the state is refused so
abbrev pub IsRefusedStateOf : Option (List ℕ) → Plan → Option (List ℕ) → StateEnd → Type 0
IsRefusedStateOf specification plan state end = (text bytes : List ℕ) → specification ≡ Some text → state ≡ Some bytes → IsRefusedState text plan bytes end

-- 9: the state was read, and is refused: it is damaged, or of another specification
pub record IsStateRefused (specification state : List ℕ) (c : Call) : Type 0 where
  pub plan : Plan
  pub is_plan : Plans (c.before.shelf.told specification) plan
  pub end : StateEnd
  pub cause : IsRefusedStateOf (c.before.shelf.told specification) plan (c.before.shelf.told state) end
  pub asks : asks_between c.before.shelf c.after.shelf ≡ given_ask specification ∷ given_ask state ∷ []
  pub count : c.after.shelf.count ≡ c.before.shelf.count
  pub trace : IsUntraced c
  pub out : Wrote c.before.out c.after.out (state_end_text end)

-- ---- what a call is given

-- a specification that is told and not refused, and a shelf that has not failed
pub record IsReadable (specification : List ℕ) (c : Call) : Type 0 where
  pub text : List ℕ
  pub text_is : c.before.shelf.told specification ≡ Some text
  pub not_refused : (r : Refusal) → IsRefusalOf text r → ⊥
  pub shelf : Rose c.before.shelf.count c.after.shelf.count → ⊥

-- sources that are told, and end well
pub record AreWellTold (shelf : ShelfState) (text : List ℕ) (sources : List (List ℕ)) : Type 0 where
  pub told : (s : ℕ) (name : List ℕ) → slice_get sources s ≡ Some name → (bytes : List ℕ) × (shelf.told name ≡ Some bytes)
  pub ends : (s : ℕ) (name bytes : List ℕ) (plan : Plan) → slice_get sources s ≡ Some name → shelf.told name ≡ Some bytes → IsPlanOf text plan
      → (source_rows plan s bytes).end ≡ Whole

-- a state that is told and that no state text of a plan of the specification is: nothing but a want of memory keeps it from being refused
pub record IsBadState (specification state : List ℕ) (c : Call) : Type 0 where
  pub read : IsReadable specification c
  pub bytes : List ℕ
  pub bytes_are : c.before.shelf.told state ≡ Some bytes
  pub bad : (plan : Plan) → IsPlanOf read.text plan → IsStateText read.text plan bytes → ⊥

-- a specification that is told and has no plan, on a shelf that has not failed
pub record IsSpoiledNamed (specification : List ℕ) (c : Call) : Type 0 where
  pub text : List ℕ
  pub text_is : c.before.shelf.told specification ≡ Some text
  pub no_plan : (plan : Plan) → IsPlanOf text plan → ⊥
  pub shelf : Rose c.before.shelf.count c.after.shelf.count → ⊥
