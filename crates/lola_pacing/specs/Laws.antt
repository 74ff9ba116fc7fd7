-- Laws of what is found.
use Rattle.std.specs.Prelude.{ℕ, ◌≡◌, ◌≢◌, ◌↔◌, List, [], ◌∷◌, Option, None, true, false, slice_get, unwrap_or, Contains}
use Rattle.lola_value.specs.declared.front.Code.{Code}
use Rattle.lola_value.specs.declared.front.Refusal.{Refusal}
use Rattle.lola_model.specs.Parts.{listed_clause}
use Rattle.lola_model.specs.declared.spec.Clause.{Clause}
use Rattle.lola_model.specs.declared.spec.Stream.{Stream}
use Rattle.std.specs.List.{list_all}
use Rattle.lola_model.specs.Activity.{satisfies_some}
use Rattle.lola_model.specs.Implication.{Implies}
use Rattle.lola_model.specs.declared.pacing.InputSet.{InputSet}
use Rattle.lola_model.specs.declared.pacing.Pacing.{Pacing}
use Rattle.lola_model.specs.declared.pacing.Pacing.TheVariants.{Event}
use Rattle.lola_model.specs.PacingFound.{IsJoined, any_row, finding_at}
use Rattle.lola_model.specs.PacingRefused.{does_imply, is_filtered, used, clause_refusals}
use Rattle.lola_model.specs.declared.finding.FoundPacing.TheVariants.{Paced, Refused}
use Rattle.lola_model.specs.declared.finding.FoundPacing.{FoundPacing}
use Rattle.lola_model.specs.declared.uses.Use.{Use}
use Rattle.lola_model.specs.declared.uses.Use.TheVariants.{OfStream, OfWindow}

-- the test of E11 is implication
pub record TellsImplication : Type 0 where
  pub told : (p q : Pacing) → (does_imply p q ≡ true) ↔ Implies p q

-- inputs satisfy what is joined exactly where they satisfy the first and each of the others
pub record MeansConjunction : Type 0 where
  pub every : (inputs : ℕ) → satisfies_some inputs any_row ≡ true
  pub joined : (at : ℕ) (sets result : List InputSet) (forms : List (List InputSet)) → IsJoined at sets forms (Paced (Event result))
      → (inputs : ℕ) → satisfies_some inputs result ≡ list_all (satisfies_some inputs) (sets ∷ forms)

-- nothing stands against a direct access or a window
abbrev pub IsFine : List Stream → List FoundPacing → List (Option Code) → FoundPacing → Use → Type 0
IsFine streams evals window_refusals own (OfStream at n) =
    ((p q : Pacing) → own ≡ Paced p → finding_at evals n ≡ Paced q → Implies p q) × (is_filtered (slice_get streams n) ≡ false)
IsFine streams evals window_refusals own (OfWindow at w) = unwrap_or (slice_get window_refusals w) None ≡ None

-- where nothing is refused of a clause, its direct accesses and windows are fine, and nothing is refused of its pacing
pub record AcceptsFine : Type 0 where
  pub fine : (streams : List Stream) (evals : List FoundPacing) (window_refusals : List (Option Code)) (own : FoundPacing) (clause : Option Clause)
      → clause_refusals streams evals window_refusals own clause ≡ [] → (u : Use) → Contains (listed_clause used clause) u → IsFine streams evals window_refusals own u
  pub found : (streams : List Stream) (evals : List FoundPacing) (window_refusals : List (Option Code)) (own : FoundPacing) (clause : Option Clause)
      → clause_refusals streams evals window_refusals own clause ≡ [] → (r : Refusal) → own ≢ Refused r
