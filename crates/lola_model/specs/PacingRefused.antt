-- What the pacing phase refuses.
use Rattle.std.specs.Prelude.{ℕ, List, [], ◌∷◌, ◌++◌, Option, Some, None, Bool, false, ◌||◌, if◌then◌else◌, slice_get, unwrap_or, flat_map}
use Rattle.std.specs.List.{list_all}
use Rattle.lola_value.specs.declared.front.Code.{Code}
use Rattle.lola_value.specs.declared.front.Code.TheVariants as code
use Rattle.lola_value.specs.declared.front.Refusal.{Refusal}
use Rattle.lola_model.specs.Activity.{satisfies_some}
use Rattle.lola_model.specs.Named.{has_clause, has_when}
use Rattle.lola_model.specs.Parts.{listed_clause}
use Rattle.lola_model.specs.declared.pacing.InputSet.{InputSet}
use Rattle.lola_model.specs.declared.pacing.Pacing.{Pacing}
use Rattle.lola_model.specs.declared.pacing.Pacing.TheVariants.{Event, Periodic, Local}
use Rattle.lola_model.specs.declared.expr.Access.{Access}
use Rattle.lola_model.specs.declared.expr.Access.TheVariants as access
use Rattle.lola_model.specs.declared.expr.Expr.{Expr}
use Rattle.lola_model.specs.declared.expr.Expr.TheVariants.{Read, Window}
use Rattle.lola_model.specs.declared.spec.Clause.{Clause}
use Rattle.lola_model.specs.declared.spec.Stream.{Stream}
use Rattle.lola_model.specs.PacingFound.{finding_at, is_multiple}
use Rattle.lola_model.specs.declared.uses.Use.{Use}
use Rattle.lola_model.specs.declared.uses.Use.TheVariants.{OfStream, OfWindow}
use Rattle.lola_model.specs.declared.finding.FoundPacing.{FoundPacing}
use Rattle.lola_model.specs.declared.finding.FoundPacing.TheVariants.{Paced, Refused, Unpaced}

-- one pacing implies another, as it is told by least sets and by rates
abbrev pub does_imply : Pacing → Pacing → Bool
does_imply (Event a) (Event b) = list_all (λ (s : InputSet). satisfies_some s.0 b) a
does_imply (Periodic r) (Periodic q) = is_multiple r q
does_imply (Event a) (Periodic q) = false
does_imply (Periodic r) (Event b) = false
does_imply (Local r) q = false
does_imply p (Local q) = false

-- a refusal, or none
abbrev pub refusal_where : Bool → Code → ℕ → List Refusal
refusal_where b c at = if b then record { code = c; at = at } ∷ [] else []

-- E11 at a direct access, where clause and stream both have pacings
abbrev pub not_implied : FoundPacing → FoundPacing → ℕ → List Refusal
not_implied (Paced p) (Paced q) at = if does_imply p q then [] else record { code = code.NotImplied; at = at } ∷ []
not_implied (Paced p) (Refused r) at = []
not_implied (Paced p) Unpaced at = []
not_implied (Refused r) found at = []
not_implied Unpaced found at = []

-- a stream that has values only where it is spawned, or only under a condition
abbrev pub is_filtered : Option Stream → Bool
is_filtered None = false
is_filtered (Some s) = has_clause s.spawn || has_when s.eval

abbrev pub refusal_of_window : Option Code → ℕ → List Refusal
refusal_of_window None at = []
refusal_of_window (Some c) at = record { code = c; at = at } ∷ []

-- of a clause itself
abbrev pub finding_refusal : FoundPacing → List Refusal
finding_refusal (Paced p) = []
finding_refusal (Refused r) = r ∷ []
finding_refusal Unpaced = []

-- a direct access or a window that an expression itself is
abbrev pub access_use : ℕ → ℕ → Access → List Use
access_use at n access.Direct = OfStream at n ∷ []
access_use at n access.Get = []
access_use at n access.Hold = []
access_use at n (access.Offset k) = []

abbrev pub used : Expr → List Use
used (Read place n how args) = access_use place.at n how
used (Window place w args) = OfWindow place.at w ∷ []
used _ = []

-- of a specification's streams, with what is found of their eval clauses and what stands against windows, in a clause of which
-- the last is found
module _ (streams : List Stream) (evals : List FoundPacing) (verdicts : List (Option Code)) (own : FoundPacing) where
  -- E11 and E14 at a direct access, and what stands against a window
  abbrev pub use_refusals : Use → List Refusal
  use_refusals (OfStream at n) = not_implied own (finding_at evals n) at ++ refusal_where (is_filtered (slice_get streams n)) code.DirectToFiltered at
  use_refusals (OfWindow at w) = refusal_of_window (unwrap_or (slice_get verdicts w) None) at

  -- of a clause and all parts of its expressions
  abbrev pub clause_refusals : Option Clause → List Refusal
  clause_refusals c = finding_refusal own ++ flat_map use_refusals (listed_clause used c)
