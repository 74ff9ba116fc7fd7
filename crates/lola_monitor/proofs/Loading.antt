-- An engine that was loaded, and the journals whose state it goes on from.
use Rattle.std.proofs.Common.{◌≡◌, ℕ, List, [], Option, ap, sym, subst, append-nil, ◌∙◌}
use Rattle.lola_port.specs.States.{ShelfState}
use Rattle.lola_model.specs.Journal.{IsLegal, accepted, known_start}
use Rattle.lola_model.specs.declared.journal.Entry.{Entry}
use Rattle.lola_model.specs.declared.journal.Show.{Show}
use Rattle.lola_model.specs.declared.plan.Plan.{Plan}
use Rattle.lola_engine.specs.declared.engine.EngineState.{EngineState}
use Rattle.lola_instances.specs.declared.store.BoundedStore.{BoundedStore}
use Rattle.lola_save.specs.Opening.{IsLoadedFrom}
use Rattle.lola_save.specs.declared.end.StateEnd.TheVariants as state_end
use Rattle.lola_save_text.specs.JournalStates.{IsJournalOf, state_of}
use Rattle.lola_save_text.specs.Resuming.{ServesAsStart}
use Rattle.lola_save_read.specs.Ends.{IsReadEnd}
use Rattle.lola_save_read.specs.declared.read.ReadEnd.{ReadEnd}
use Rattle.lola_save_read.specs.declared.read.ReadEnd.TheVariants as read_end
use Rattle.lola_save_text.specs.Damage.{IsStateText}
use Rattle.lola_save_text.specs.Forms.{forms_of}
use Rattle.lola_save_text.specs.Lines.{state_text}
use Rattle.lola_save_text.specs.Validity.{IsSaved}
use Rattle.lola_save_text.specs.declared.state.SavedState.{SavedState}
use Rattle.lola_monitor.specs.Outcomes.{noted}
use Rattle.lola_monitor.specs.Replaying.{IsText}
use Rattle.lola_monitor.specs.Stating.{IsOfNoJournal, Loaded, NoEngine, Unloads, refusal_of}
use Rattle.lola_monitor.specs.declared.call_end.Unloaded.{Unloaded}
use Rattle.lola_monitor.specs.declared.call_end.Unloaded.TheVariants as unloaded
use Rattle.lola_monitor.proofs.Calls.{grew_noted}

-- a text tells one state
abbrev pub TellsOne : Plan → Type 0
TellsOne plan = (spec : List ℕ) (s t : SavedState) → IsSaved (forms_of plan) s → IsSaved (forms_of plan) t → state_text spec plan s ≡ state_text spec plan t → s ≡ t

-- the state of a journal is one that the plan can have
abbrev pub HasSavedStates : Plan → Type 0
HasSavedStates plan = (start : Option ℕ) (journal : List Entry) → IsJournalOf plan start journal → IsSaved (forms_of plan) (state_of plan start journal)

-- and its text a state text of the plan
abbrev pub HasStateTexts : Plan → Type 0
HasStateTexts plan = (spec : List ℕ) (start : Option ℕ) (journal : List Entry) → IsJournalOf plan start journal → IsStateText spec plan (state_text spec plan (state_of plan start journal))

module _ (specification : List ℕ) (plan : Plan) (bytes : List ℕ) where
  legal_start : ServesAsStart plan → (start : Option ℕ) (front : List Entry) → IsLegal start front → IsLegal (known_start start (accepted front)) front
  legal_start serves start front legal =
      let same = append-nil front in
      subst (IsLegal (known_start start (accepted front))) same ((serves start front [] legal).legal.0 (subst (IsLegal start) (sym same) legal))

  pub loaded : (show : Show) (e : EngineState) (s : BoundedStore) → TellsOne plan → HasSavedStates plan → ServesAsStart plan → IsLoadedFrom specification plan bytes show e s → Loaded specification plan bytes show e s
  loaded show e s one saves serves is = record {
    loaded = is;
    start = λ start front f.
        let same : is.state ≡ state_of plan start front = one specification is.state (state_of plan start front) is.saved (saves start front f.of) (sym is.written ∙ f.text) in
        let begun : e.given_start ≡ known_start start (accepted front) = is.on.given_start ∙ ap (λ (t : SavedState). t.start) same in
        (begun, subst (λ (o : Option ℕ). IsLegal o front) (sym begun) (legal_start serves start front f.of.legal));
  }

  -- bytes that are no state text are that of no journal's state
  of_none : HasStateTexts plan → (IsStateText specification plan bytes → ⊥) → IsOfNoJournal specification plan bytes
  of_none texts none start front f = none (subst (IsStateText specification plan) (sym f.text) (texts specification start front f.of))

  pub unloads : HasStateTexts plan → (end : ReadEnd) → IsReadEnd specification plan bytes end → Unloads (refusal_of end) specification plan bytes
  unloads texts (read_end.Damaged line) is = record { refused = is; none = of_none texts is.1.none }
  unloads texts read_end.OtherSpec is = record { refused = is; none = of_none texts is.1 }
  unloads texts read_end.Memory is = tt

  -- a state that was read, and from which no engine goes on
  pub no_engine : (end : Unloaded) (name : List ℕ) (before after : ShelfState) → IsText (before.told name) bytes → after ≡ noted before name → Unloads end specification plan bytes → NoEngine end specification plan name before after
  no_engine (unloaded.Stated state_end.Unreadable) name before after is_text read is = absurd is
  no_engine (unloaded.Stated (state_end.Damaged line)) name before after is_text read is = record { bytes = bytes; is_text = is_text; refused = is.refused; none = is.none; shelf = read }
  no_engine (unloaded.Stated state_end.OtherSpecification) name before after is_text read is = record { bytes = bytes; is_text = is_text; refused = is.refused; none = is.none; shelf = read }
  no_engine (unloaded.Stated state_end.TooManySteps) name before after is_text read is = absurd is
  no_engine unloaded.Memory name before after is_text read is = grew_noted name [] before after read
