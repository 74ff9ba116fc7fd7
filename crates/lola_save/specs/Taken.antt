-- What is taken of a store: of each instance what a state has of its life.
use Rattle.std.specs.Prelude.{ℕ, ◌≡◌, ◌≤◌, ◌+◌, List, [], ◌∷◌, ◌++◌, Option, Some, None, true, map}
use Rattle.lola_value.specs.Answer.{Missing}
use Rattle.lola_value.specs.Naming.{Naming, read_outcome, read_params}
use Rattle.lola_value.specs.declared.text.Field.{Field}
use Rattle.lola_value.specs.declared.value.Value.{Value}
use Rattle.lola_model.specs.Accesses.{one_more}
use Rattle.lola_model.specs.Content.{Life}
use Rattle.lola_model.specs.Store.{Memories, Seen, SeenInstance, SeenStream, start_seen, time_seen}
use Rattle.lola_panes.specs.declared.partial.Partial.{Partial}
use Rattle.lola_panes.specs.Parts.{pane_values, partial_of}
use Rattle.lola_panes.specs.Standing.{Partials, StandFor}
use Rattle.lola_panes.specs.Weights.{number_at}
use Rattle.lola_save_text.specs.declared.forms.StreamForm.{StreamForm}
use Rattle.lola_save_text.specs.declared.state.SavedInstance.{SavedInstance}
use Rattle.lola_save_text.specs.JournalStates.{saved_life}
use Rattle.lola_save_text.specs.Offsets.{panes_up_to}

-- a value, if there is one
abbrev pub value_in : Option Value → List Value
value_in None = []
value_in (Some v) = v ∷ []

-- panes with a value, of which so many up to the newest are of the window that ends with it
pub record HavePanes (count : ℕ) (p : Partials) : Type 0 where
  pub told : p.told ≡ true
  pub within : count ≤ p.count
  pub there : count ≤ number_at p.pane p.newest + 1

-- these are the partial results of so many panes up to the newest, whatever values the panes stand for
abbrev pub ArePartsOf : ℕ → List Partial → Partials → Type 0
ArePartsOf count qs p =
    (all : List (ℕ × Field)) → StandFor p all
    → qs ≡ map (λ number. partial_of p.aggregation (pane_values p.pane number all)) (panes_up_to (number_at p.pane p.newest) count)

-- the life of an instance that a store shows at a time and that had these values before its step, once the step is behind it
abbrev pub life_by_now : ℕ → Naming → SeenInstance → List (ℕ × Field) → Life
life_by_now time names x values =
    record {
      params = read_params names x.params;
      born = x.born;
      earlier = values ++ one_more time (read_outcome names x.outcome);
      outcome = Missing;
    }

module _ (s : Seen) (remembers : Memories) (names : Naming) where
  -- what a state has of an instance at a place of a stream, whatever values the store remembers
  abbrev pub IsTaken : StreamForm → ℕ → ℕ → SeenInstance → SavedInstance → Type 0
  IsTaken form n i x y =
      (values : List (ℕ × Field)) → remembers names n i values → y ≡ saved_life (start_seen s) form (life_by_now (time_seen s) names x values)

  -- of all instances of a stream, from a place on
  abbrev pub AreTaken : StreamForm → ℕ → ℕ → List SeenInstance → List SavedInstance → Type 0
  AreTaken form n i [] [] = Unit {0}
  AreTaken form n i (x ∷ xs) (y ∷ ys) = IsTaken form n i x y × AreTaken form n (i + 1) xs ys
  AreTaken form n i _ _ = ⊥

  -- of the streams from a number on
  abbrev pub AreStreamsTaken : ℕ → List StreamForm → List SeenStream → List (List SavedInstance) → Type 0
  AreStreamsTaken n [] [] [] = Unit {0}
  AreStreamsTaken n (form ∷ forms) (x ∷ xs) (ys ∷ yss) = AreTaken form n 0 x.instances ys × AreStreamsTaken (n + 1) forms xs yss
  AreStreamsTaken n _ _ _ = ⊥
