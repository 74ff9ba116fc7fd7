-- A store that was restored from a saved state, and which values an instance had that was saved.
use Rattle.std.specs.Prelude.{ℕ, ◌≡◌, ◌+◌, ◌≤◌, List, [], ◌∷◌, Option, Some, None, length, map, true, unwrap_or}
use Rattle.std.specs.List.{AllByRecursion}
use Rattle.lola_value.specs.Naming.{Naming, AreHeld, read_params, the_values}
use Rattle.lola_value.specs.declared.text.Field.{Field}
use Rattle.lola_value.specs.declared.value.Kind.{Kind}
use Rattle.lola_value.specs.declared.value.Outcome.TheVariants as outcome
use Rattle.lola_model.specs.Runs.{content_after, run_start, settled_fault, settled_model}
use Rattle.lola_model.specs.Standing.{StandsBetween}
use Rattle.lola_model.specs.Store.{Memories, Seen, SeenInstance, SeenStream, layout_of, start_seen, time_seen}
use Rattle.lola_model.specs.declared.journal.Entry.{Entry}
use Rattle.lola_model.specs.declared.plan.Plan.{Plan}
use Rattle.lola_panes.specs.Restored.{AllFrom, InOrder}
use Rattle.lola_save_text.specs.Fitting.{is_value, time_or}
use Rattle.lola_save_text.specs.Forms.{forms_of}
use Rattle.lola_save_text.specs.declared.forms.StreamForm.{StreamForm}
use Rattle.lola_save_text.specs.declared.state.SavedInstance.{SavedInstance}
use Rattle.lola_save_text.specs.declared.state.SavedState.{SavedState}
use Rattle.lola_save_text.specs.declared.state.Times.{Times}
use Rattle.lola_save_text.specs.JournalStates.{IsJournalOf, last_values, state_of}
use Rattle.lola_save_text.specs.PaneFolds.{panes_of}

module _ (times : Times) where
  -- values of a life in a run that has come so far, with their times: of a kind, none before the start, in the order of time, none
  -- behind the last row, and no more than there were steps
  pub record AreOfLife (kind : Kind) (values : List (ℕ × Field)) : Type 0 where
    pub kinds : AllByRecursion (λ v. is_value kind v.1 ≡ true) values
    pub since : AllFrom (time_or 0 times.start) values
    pub order : InOrder values
    pub last : AllByRecursion (λ v. v.0 ≤ time_or 0 times.last) values
    pub few : length values ≤ times.steps

  -- a saved instance of a stream is what is saved of one with these values
  pub record IsSavedOf (values : List (ℕ × Field)) (form : StreamForm) (saved : SavedInstance) : Type 0 where
    pub life : AreOfLife form.kind values
    pub ring : last_values form.kept values ≡ saved.ring
    pub panes : map (λ w. panes_of (time_or 0 times.start) w values) form.windows ≡ saved.panes

  module _ (names : Naming) (remembers : Memories) where
    -- an instance of stream n was restored from a saved one: it has its parameters and its time of birth, nothing in this step, and
    -- remembers whatever values the saved one is of
    pub record IsRestored (n i : ℕ) (form : StreamForm) (x : SeenInstance) (saved : SavedInstance) : Type 0 where
      pub params : read_params names x.params ≡ saved.params
      pub held : AreHeld names (the_values x.params)
      pub silent : x.outcome ≡ outcome.Missing
      pub born : form.spawns ≡ true → saved.born ≡ Some x.born
      pub past : (values : List (ℕ × Field)) → IsSavedOf values form saved → remembers names n i values

    -- the instances of stream n, from that at place i on
    abbrev pub AreRestored : ℕ → ℕ → StreamForm → List SeenInstance → List SavedInstance → Type 0
    AreRestored n i form [] [] = Unit {0}
    AreRestored n i form (x ∷ xs) (a ∷ saved) = IsRestored n i form x a × AreRestored n (i + 1) form xs saved
    AreRestored n i form _ _ = ⊥

    -- the streams, from number n on
    abbrev pub StreamsAreRestored : ℕ → List StreamForm → List SeenStream → List (List SavedInstance) → Type 0
    StreamsAreRestored n [] [] [] = Unit {0}
    StreamsAreRestored n (form ∷ forms) (s ∷ ss) (saved ∷ streams) = AreRestored n 0 form s.instances saved × StreamsAreRestored (n + 1) forms ss streams
    StreamsAreRestored n _ _ _ = ⊥

-- a store of a plan that shows this was restored from a state with a start: it is at the time of the last row, or at the start
pub record IsRestoredFrom (plan : Plan) (state : SavedState) (names : Naming) (remembers : Memories) (s : Seen) : Type 0 where
  pub layout : s.layout ≡ layout_of plan
  pub start : state.start ≡ Some (start_seen s)
  pub time : unwrap_or state.last (start_seen s) ≡ time_seen s
  pub streams : StreamsAreRestored (record { start = state.start; last = state.last; steps = state.steps }) names remembers 0 (forms_of plan) s.streams state.streams

-- it stands for what a journal comes to, whichever journal without a fault it was that a run took and that has this state
abbrev pub StandsForJournals : Plan → SavedState → Naming → Memories → Seen → Type 0
StandsForJournals plan state names remembers s =
    (start : Option ℕ) (journal : List Entry) → IsJournalOf plan start journal → settled_fault plan start journal ≡ None → state ≡ state_of plan start journal
    → StandsBetween names remembers s (content_after plan (run_start plan start journal) (settled_model plan start journal))
