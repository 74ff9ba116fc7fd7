-- The state of a run that took a journal: what it holds after its last settled step.
use Rattle.std.specs.Prelude.{ℕ, ◌≡◌, ◌≤◌, ◌-◌, List, [], ◌∷◌, Option, Some, None, true, if◌then◌else◌, length, map, drop}
use Rattle.lola_value.specs.declared.text.Field.{Field}
use Rattle.lola_model.specs.Content.{Life, StreamContent}
use Rattle.lola_model.specs.Journal.{accepted, IsLegal, known_start, last_accepted}
use Rattle.lola_model.specs.Runs.{run_start, settled_model, IsSettledModel, content_after}
use Rattle.lola_model.specs.Table.{TableRow}
use Rattle.lola_model.specs.Trace.{IsTraceable}
use Rattle.lola_model.specs.declared.journal.Entry.{Entry}
use Rattle.lola_model.specs.declared.journal.Row.{Row}
use Rattle.lola_model.specs.declared.plan.Plan.{Plan}
use Rattle.lola_save_text.specs.Fitting.{is_start, most_steps}
use Rattle.lola_save_text.specs.declared.forms.StreamForm.{StreamForm}
use Rattle.lola_save_text.specs.Forms.{forms_of}
use Rattle.lola_save_text.specs.declared.state.SavedInstance.{SavedInstance}
use Rattle.lola_save_text.specs.declared.state.SavedState.{SavedState}
use Rattle.lola_save_text.specs.PaneFolds.{panes_of}

-- the last of some values, so many or all that there are, from the oldest on
abbrev pub last_values : ℕ → List (ℕ × Field) → List Field
last_values kept vs = map (λ v. v.1) (drop (length vs - kept) vs)

module _ (start : ℕ) where
  -- what is saved of a life: when it began, where its stream has a spawn clause; its parameters, its last values, and the panes of
  -- each window onto it
  abbrev pub saved_life : StreamForm → Life → SavedInstance
  saved_life s l =
      record {
        born = if s.spawns then Some l.born else None;
        params = l.params;
        ring = last_values s.kept l.earlier;
        panes = map (λ w. panes_of start w l.earlier) s.windows;
      }

  -- of all streams, the instances of each in the order of birth
  abbrev pub saved_streams : List StreamForm → List StreamContent → List (List SavedInstance)
  saved_streams (s ∷ ss) (c ∷ cs) = map (saved_life s) c.lives ∷ saved_streams ss cs
  saved_streams _ _ = []

module _ (plan : Plan) (start : Option ℕ) (journal : List Entry) where
  -- the state after the steps of a table
  abbrev pub state_over : List TableRow → SavedState
  state_over table =
      record {
        start = known_start start (accepted journal);
        last = last_accepted (accepted journal);
        steps = length table;
        streams = saved_streams (run_start plan start journal) (forms_of plan) (content_after plan (run_start plan start journal) table).streams;
      }

  -- the state after the settled steps of a journal
  abbrev pub state_of : SavedState
  state_of = state_over (settled_model plan start journal)

  -- the state after a table that solves the equations of the settled steps
  pub record IsStateOf (s : SavedState) : Type 0 where
    pub table : List TableRow
    pub solves : IsSettledModel plan start journal table
    pub is : s ≡ state_over table

-- each entry can be told by a line of the plan's trace
abbrev pub AreTraceable : Plan → List Entry → Type 0
AreTraceable plan [] = Unit {0}
AreTraceable plan (e ∷ es) = IsTraceable plan e × AreTraceable plan es

-- a run of a plan can have this start option and take this journal, and its state can be saved: its steps are not too many
pub record IsJournalOf (plan : Plan) (start : Option ℕ) (journal : List Entry) : Type 0 where
  pub option : is_start start ≡ true
  pub legal : IsLegal start journal
  pub fits : AreTraceable plan journal
  pub steps : length (settled_model plan start journal) ≤ most_steps
