-- A worked store: it was restored from the state behind one row, and so it stands for what that row comes to.
use Rattle.std.proofs.Common.{◌≡◌, refl, sym, ℕ, List, [], ◌∷◌, Some, None, true, false, arith}
use Rattle.std.specs.Prelude.{unwrap_or, slice_get}
use Rattle.lola_value.specs.Naming.{Naming}
use Rattle.lola_value.specs.declared.text.Field.{Field}
use Rattle.lola_value.specs.declared.text.Field.TheVariants as field
use Rattle.lola_value.specs.declared.value.Kind.TheVariants as kind
use Rattle.lola_value.specs.declared.value.Outcome.TheVariants as outcome
use Rattle.lola_model.specs.Acceptance.{IsAccepted}
use Rattle.lola_model.specs.Runs.{content_after, settled_fault, settled_model}
use Rattle.lola_model.specs.Standing.{StandsBetween}
use Rattle.lola_model.specs.Store.{Memories, Running, Seen, SeenStream, layout_of, no_params}
use Rattle.lola_model.specs.declared.plan.Plan.{Plan}
use Rattle.lola_model.proofs.Build.{Around, accepted_all, int, row_at}
use Rattle.lola_model.proofs.Rows.{sum_and_trigger}
use Rattle.lola_save_text.specs.declared.forms.StreamForm.{StreamForm}
use Rattle.lola_save_text.specs.declared.state.SavedInstance.{SavedInstance}
use Rattle.lola_save_text.specs.declared.state.Times.{Times}
use Rattle.lola_save_text.specs.JournalStates.{last_values}
use Rattle.lola_save_text.specs.Restored.{IsRestoredFrom, IsSavedOf}
use Rattle.lola_save_text.proofs.WorkedStates.{first-journal, first-row, first_row}
use Rattle.lola_save_text.proofs.Restoring.{restored-stands}

-- one instance without parameters, in a step that is over
abbrev single : SeenStream
single = record { bad = false; spawned = true; instances = record { params = no_params; born = 0; outcome = outcome.Missing } ∷ [] }

-- a store in the step of the row at 0
abbrev pub shown : Plan → Seen
shown plan = record { layout = layout_of plan; phase = Running 0 0; prepared = false; steps = 2; streams = single ∷ single ∷ single ∷ [] }

-- the last value of each stream: an input, an output of one more, and a trigger that is false
abbrev last_value : ℕ → List Field
last_value n = unwrap_or (slice_get ((int 1 ∷ []) ∷ (int 2 ∷ []) ∷ (field.Bool false ∷ []) ∷ []) n) []

-- it remembers whatever values end with that
abbrev pub ends_with_last : Memories
ends_with_last names n i values = last_values 1 values ≡ last_value n

pub restored : (u : Around) (names : Naming) → IsRestoredFrom (sum_and_trigger u) first_row names ends_with_last (shown (sum_and_trigger u))
restored u names = record {
  layout = refl;
  start = refl;
  time = refl;
  streams = (
    (record { params = refl; held = tt; silent = refl; born = λ e. absurd (cc); past = λ values h. h.ring }, tt),
    (
      (record { params = refl; held = tt; silent = refl; born = λ e. absurd (cc); past = λ values h. h.ring }, tt),
      ((record { params = refl; held = tt; silent = refl; born = λ e. absurd (cc); past = λ values h. h.ring }, tt), tt),
    ),
  );
}

no-fault : (u : Around) → settled_fault (sum_and_trigger u) None (accepted_all (row_at 0 (int 1) ∷ [])) ≡ None
unfolding settled_fault settled_model
no-fault u = refl

pub stands : (u : Around) (names : Naming) → IsAccepted (sum_and_trigger u)
    → StandsBetween names ends_with_last (shown (sum_and_trigger u)) (content_after (sum_and_trigger u) 0 (settled_model (sum_and_trigger u) None (accepted_all (row_at 0 (int 1) ∷ []))))
stands u names known =
    restored-stands (sum_and_trigger u) known refl first_row names ends_with_last (shown (sum_and_trigger u)) (restored u names) None (accepted_all (row_at 0 (int 1) ∷ [])) (first-journal u) (no-fault u)
    (sym (first-row u))

-- what a saved instance is of: values that end as its ring does, whatever came before

abbrev at_five : Times
at_five = record { start = Some 0; last = Some 5; steps = 2 }

abbrev keeps_one : StreamForm
keeps_one = record { kind = kind.Int64; parameters = []; spawns = false; kept = 1; windows = [] }

abbrev has_one : SavedInstance
has_one = record { born = None; params = []; ring = int 1 ∷ []; panes = [] }

pub one-value : IsSavedOf at_five ((5, int 1) ∷ []) keeps_one has_one
one-value = record { life = record { kinds = (refl, tt); since = (omega arith, tt); order = (tt, tt); last = (omega arith, tt); few = omega arith }; ring = refl; panes = refl }

pub two-values : IsSavedOf at_five ((3, int 7) ∷ (5, int 1) ∷ []) keeps_one has_one
two-values = record {
  life = record { kinds = (refl, (refl, tt)); since = (omega arith, (omega arith, tt)); order = ((omega arith, tt), (tt, tt)); last = (omega arith, (omega arith, tt)); few = omega arith };
  ring = refl;
  panes = refl;
}

pub other-last : IsSavedOf at_five ((5, int 7) ∷ []) keeps_one has_one → ⊥
other-last h = let e = h.ring in cc

pub behind-last : IsSavedOf at_five ((6, int 1) ∷ []) keeps_one has_one → ⊥
behind-last h = let le = h.life.last.0 in omega (arith, le)

pub falling : IsSavedOf at_five ((5, int 7) ∷ (3, int 1) ∷ []) keeps_one has_one → ⊥
falling h = let le = h.life.order.0.0 in omega (arith, le)
