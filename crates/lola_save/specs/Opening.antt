-- A store and an engine that were made from a state.
use Rattle.std.specs.Prelude.{ℕ, ◌≡◌, ◌<◌, ◌≤◌, List, [], Option, Some, None, length}
use Rattle.lola_value.specs.Naming.{Naming}
use Rattle.lola_model.specs.Journal.{opening_time}
use Rattle.lola_model.specs.Runs.{settled_fault}
use Rattle.lola_model.specs.Store.{instances_seen, layout_of, new_seen}
use Rattle.lola_model.specs.declared.journal.Entry.{Entry}
use Rattle.lola_model.specs.declared.journal.Show.{Show}
use Rattle.lola_model.specs.declared.plan.Plan.{Plan}
use Rattle.lola_engine.specs.Behind.{StandsBehind}
use Rattle.lola_engine.specs.Engines.{IsEngine}
use Rattle.lola_engine.specs.Resuming.{merge_start, times_of}
use Rattle.lola_engine.specs.Resuming as engines
use Rattle.lola_engine.specs.declared.engine.EngineState.{EngineState}
use Rattle.lola_engine.specs.declared.times.RunTimes.{RunTimes}
use Rattle.lola_instances.specs.Restoring.{after_resume}
use Rattle.lola_instances.specs.Stores.{bounded_remembers, bounded_seen}
use Rattle.lola_instances.specs.declared.store.BoundedStore.{BoundedStore}
use Rattle.lola_save_text.specs.Forms.{forms_of}
use Rattle.lola_save_text.specs.Lines.{state_text}
use Rattle.lola_save_text.specs.Validity.{IsSaved}
use Rattle.lola_save_text.specs.declared.state.SavedState.{SavedState}
use Rattle.lola_save_text.specs.JournalStates.{IsJournalOf, state_of}
use Rattle.lola_save_text.specs.Restored.{IsRestoredFrom}

-- how far a run of a state had come
abbrev pub times_in : SavedState → RunTimes
times_in state = record { start = state.start; last = state.last; steps = state.steps }

-- a new store of a plan goes on where a run of a state had come, and has nothing of it yet
pub record IsGoingOn (plan : Plan) (state : SavedState) (s : BoundedStore) : Type 0 where
  pub seen : bounded_seen s ≡ after_resume (new_seen (layout_of plan)) state.start state.last state.steps
  pub none : (names : Naming) (n i : ℕ) → i < length (instances_seen (bounded_seen s) n) → bounded_remembers s names n i []

-- a store of a plan that goes on from a state, over texts
pub record IsStoreOf (plan : Plan) (state : SavedState) (names : Naming) (s : BoundedStore) : Type 0 where
  pub on : engines.IsRestored plan (times_in state) (bounded_seen s)
  pub fresh : state.last ≡ None → IsGoingOn plan state s
  pub restored : (start : ℕ) → state.start ≡ Some start → IsRestoredFrom plan state names (bounded_remembers s) (bounded_seen s)

-- an engine stands behind each journal that a run took without a fault and that has this state
abbrev pub StandsForJournalsOf : Plan → SavedState → EngineState → BoundedStore → Type 0
StandsForJournalsOf plan state e s =
    (start : Option ℕ) (journal : List Entry) → IsJournalOf plan start journal → settled_fault plan start journal ≡ None → state ≡ state_of plan start journal
    → StandsBehind e (bounded_seen s) (bounded_remembers s) journal journal

-- an engine stands behind each journal that a run took without a fault and whose state has this text
abbrev pub StandsForTextsOf : List ℕ → Plan → List ℕ → EngineState → BoundedStore → Type 0
StandsForTextsOf spec plan bytes e s =
    (start : Option ℕ) (journal : List Entry) → IsJournalOf plan start journal → settled_fault plan start journal ≡ None → bytes ≡ state_text spec plan (state_of plan start journal)
    → StandsBehind e (bounded_seen s) (bounded_remembers s) journal journal

-- an engine of a plan that goes on where a state had come, counts its own steps and lines, and has the start of the state as given
pub record GoesOnFrom (plan : Plan) (show : Show) (times : RunTimes) (e : EngineState) (s : BoundedStore) : Type 0 where
  pub engine : IsEngine e (bounded_seen s)
  pub plan_is : e.plan ≡ plan
  pub show_is : e.show ≡ show
  pub given_start : e.given_start ≡ times.start
  pub no_steps : e.steps ≡ 0
  pub no_lines : e.lines ≡ 0
  pub few_rows : e.rows ≤ 1
  pub times_are : times_of e ≡ times
  pub merged : e.merged ≡ opening_time (merge_start times)

-- an engine that was loaded from the text of a state: it goes on from there, and stands behind each journal with that state
pub record IsLoadedFrom (spec : List ℕ) (plan : Plan) (bytes : List ℕ) (show : Show) (e : EngineState) (s : BoundedStore) : Type 0 where
  pub state : SavedState
  pub saved : IsSaved (forms_of plan) state
  pub written : bytes ≡ state_text spec plan state
  pub on : GoesOnFrom plan show (times_in state) e s
  pub stands : StandsForTextsOf spec plan bytes e s
