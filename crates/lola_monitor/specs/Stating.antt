-- What reading a state leaves: an engine that goes on from it, or why there is none.
use Rattle.std.specs.Prelude.{◌≡◌, ℕ, List, [], ◌∷◌, Option}
use Rattle.lola_port.specs.States.{ShelfState}
use Rattle.lola_model.specs.Journal.{IsLegal, accepted, known_start}
use Rattle.lola_model.specs.declared.journal.Entry.{Entry}
use Rattle.lola_model.specs.declared.journal.Show.{Show}
use Rattle.lola_model.specs.declared.plan.Plan.{Plan}
use Rattle.lola_engine.specs.declared.engine.EngineState.{EngineState}
use Rattle.lola_instances.specs.declared.store.BoundedStore.{BoundedStore}
use Rattle.lola_save.specs.Opening.{IsLoadedFrom}
use Rattle.lola_save.specs.StateEnds.{IsRefusedState}
use Rattle.lola_save.specs.declared.end.StateEnd.{StateEnd}
use Rattle.lola_save.specs.declared.end.StateEnd.TheVariants as state_end
use Rattle.lola_save_read.specs.declared.read.ReadEnd.{ReadEnd}
use Rattle.lola_save_read.specs.declared.read.ReadEnd.TheVariants as read_end
use Rattle.lola_monitor.specs.Outcomes.{Grew, Marred, noted}
use Rattle.lola_monitor.specs.Pasts.{IsSavedAs}
use Rattle.lola_monitor.specs.Replaying.{IsText}
use Rattle.lola_monitor.specs.declared.call_end.Unloaded.{Unloaded}
use Rattle.lola_monitor.specs.declared.call_end.Unloaded.TheVariants as unloaded

-- whatever journal it was whose state's text these bytes are, an engine counts time from where that does, with which it is legal too
abbrev pub HasStartOf : List ℕ → Plan → List ℕ → EngineState → Type 0
HasStartOf specification plan bytes e =
    (start : Option ℕ) (front : List Entry) → IsSavedAs specification plan bytes start front → (e.given_start ≡ known_start start (accepted front)) × IsLegal e.given_start front

-- these bytes are the text of no journal's state
abbrev pub IsOfNoJournal : List ℕ → Plan → List ℕ → Type 0
IsOfNoJournal specification plan bytes = (start : Option ℕ) (front : List Entry) → IsSavedAs specification plan bytes start front → ⊥

-- an engine goes on from the state whose text these bytes are, and counts time from where its journal does
pub record Loaded (specification : List ℕ) (plan : Plan) (bytes : List ℕ) (show : Show) (e : EngineState) (s : BoundedStore) : Type 0 where
  pub loaded : IsLoadedFrom specification plan bytes show e s
  pub start : HasStartOf specification plan bytes e

-- these bytes are refused, and so are the text of no journal's state
pub record Refused (end : StateEnd) (specification : List ℕ) (plan : Plan) (bytes : List ℕ) : Type 0 where
  pub refused : IsRefusedState specification plan bytes end
  pub none : IsOfNoJournal specification plan bytes

-- why bytes are no state, as a call tells it
abbrev pub refusal_of : ReadEnd → Unloaded
refusal_of (read_end.Damaged line) = unloaded.Stated (state_end.Damaged line)
refusal_of read_end.OtherSpec = unloaded.Stated state_end.OtherSpecification
refusal_of read_end.Memory = unloaded.Memory

-- why no engine goes on from these bytes
abbrev pub Unloads : Unloaded → List ℕ → Plan → List ℕ → Type 0
Unloads (unloaded.Stated state_end.Unreadable) specification plan bytes = ⊥
Unloads (unloaded.Stated (state_end.Damaged line)) specification plan bytes = Refused (state_end.Damaged line) specification plan bytes
Unloads (unloaded.Stated state_end.OtherSpecification) specification plan bytes = Refused state_end.OtherSpecification specification plan bytes
Unloads (unloaded.Stated state_end.TooManySteps) specification plan bytes = ⊥
Unloads unloaded.Memory specification plan bytes = Unit {0}

-- a state was read whole, and an engine goes on from it
pub record EngineRead (specification : List ℕ) (plan : Plan) (show : Show) (name : List ℕ) (e : EngineState) (s : BoundedStore) (before after : ShelfState) : Type 0 where
  pub bytes : List ℕ
  pub is_text : IsText (before.told name) bytes
  pub loaded : IsLoadedFrom specification plan bytes show e s
  pub start : HasStartOf specification plan bytes e
  pub shelf : after ≡ noted before name

-- a state was read whole, and is refused
pub record StateRefused (end : StateEnd) (specification : List ℕ) (plan : Plan) (name : List ℕ) (before after : ShelfState) : Type 0 where
  pub bytes : List ℕ
  pub is_text : IsText (before.told name) bytes
  pub refused : IsRefusedState specification plan bytes end
  pub none : IsOfNoJournal specification plan bytes
  pub shelf : after ≡ noted before name

-- why there is no engine
abbrev pub NoEngine : Unloaded → List ℕ → Plan → List ℕ → ShelfState → ShelfState → Type 0
NoEngine (unloaded.Stated state_end.Unreadable) specification plan name before after = Marred name before after
NoEngine (unloaded.Stated (state_end.Damaged line)) specification plan name before after = StateRefused (state_end.Damaged line) specification plan name before after
NoEngine (unloaded.Stated state_end.OtherSpecification) specification plan name before after = StateRefused state_end.OtherSpecification specification plan name before after
NoEngine (unloaded.Stated state_end.TooManySteps) specification plan name before after = ⊥
NoEngine unloaded.Memory specification plan name before after = Grew (name ∷ []) before after
