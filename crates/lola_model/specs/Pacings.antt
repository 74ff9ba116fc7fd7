-- The pacings of all clauses, and what the phase that finds them refuses.
use Rattle.std.specs.Prelude.{ℕ, ◌≡◌, ◌+◌, List, [], ◌∷◌, ◌++◌, Option, Some, None, Bool, false, MatchBool}
use Rattle.lola_value.specs.declared.front.Code.{Code}
use Rattle.lola_value.specs.declared.front.Refusal.{Refusal}
use Rattle.lola_model.specs.Refusals.{IsFirstIn}
use Rattle.lola_model.specs.declared.pacing.Pacing.{Pacing}
use Rattle.lola_model.specs.declared.pacing.ClausePacings.{ClausePacings}
use Rattle.lola_model.specs.declared.spec.Clause.{Clause}
use Rattle.lola_model.specs.declared.spec.Pace.{Pace}
use Rattle.lola_model.specs.declared.spec.Part.{Part}
use Rattle.lola_model.specs.declared.spec.Part.TheVariants as part
use Rattle.lola_model.specs.declared.spec.Spec.{Spec}
use Rattle.lola_model.specs.declared.spec.Stream.{Stream}
use Rattle.lola_model.specs.declared.spec.WindowSpec.{WindowSpec}
use Rattle.lola_model.specs.Leaves.{AreLeaves, is_end}
use Rattle.lola_model.specs.Named.{has_clause}
use Rattle.lola_model.specs.PacingFound.{AreOwn, IsGiven, IsFound, finding_at, findings_at, no_pacing}
use Rattle.lola_model.specs.PacingRefused.{clause_refusals}
use Rattle.lola_model.specs.WindowRefusals.{IsWindowRefusal}
use Rattle.lola_model.specs.declared.finding.FoundPacing.{FoundPacing}
use Rattle.lola_model.specs.declared.finding.FoundPacing.TheVariants.{Paced, Refused, Unpaced}

-- a relation holds of each stream, by its number, and the finding in its place
abbrev pub InStep : (ℕ → Stream → FoundPacing → Type 0) → ℕ → List Stream → List FoundPacing → Type 0
InStep R n [] [] = Unit {0}
InStep R n [] (f ∷ fs) = ⊥
InStep R n (s ∷ ss) [] = ⊥
InStep R n (s ∷ ss) (f ∷ fs) = R n s f × InStep R (n + 1) ss fs

-- its pacing alone
abbrev pub only_pacing : FoundPacing → FoundPacing
only_pacing (Paced p) = Paced p
only_pacing (Refused r) = Unpaced
only_pacing Unpaced = Unpaced

-- the place of the word that begins a clause
abbrev pub place_of : Option Clause → ℕ
place_of None = 0
place_of (Some c) = c.place

module _ (streams : List Stream) (owns : List FoundPacing) where
  -- from the leaves of a clause of stream n
  abbrev pub IsFromLeaves : ℕ → ℕ → FoundPacing → Option Clause → FoundPacing → Type 0
  IsFromLeaves n at alone clause finding = (leaves : List ℕ) × AreLeaves streams n clause leaves × IsFound at alone (findings_at owns leaves) finding

  -- of a clause with this pacing written, or none
  abbrev pub IsPaceFound : ℕ → ℕ → Bool → FoundPacing → Option Clause → Option Pace → FoundPacing → Type 0
  IsPaceFound n at spawned alone clause None finding = IsFromLeaves n at alone clause finding
  IsPaceFound n at spawned alone clause (Some p) finding = IsGiven spawned p finding

  -- of a clause of stream n, which is of instances that a spawn clause makes or not; at the place stand E12 and E13 of a found
  -- pacing, and without a leaf the clause has what it has alone
  abbrev pub IsClauseFound : ℕ → ℕ → Bool → FoundPacing → Option Clause → FoundPacing → Type 0
  IsClauseFound n at spawned alone None finding = finding ≡ Unpaced
  IsClauseFound n at spawned alone (Some c) finding = IsPaceFound n at spawned alone (Some c) c.pace finding

  -- an eval clause: without a leaf E12; an input has the rows that have it
  abbrev pub IsEvalFound : ℕ → Stream → FoundPacing → Type 0
  IsEvalFound n s finding = MatchBool (is_end s) (finding ≡ finding_at owns n) (IsClauseFound n s.place (has_clause s.spawn) (no_pacing s.place) s.eval finding)

  -- a spawn clause, whose refusals stand at its own word
  abbrev pub IsSpawnFound : ℕ → Stream → FoundPacing → Type 0
  IsSpawnFound n s finding = IsClauseFound n (place_of s.spawn) false (no_pacing (place_of s.spawn)) s.spawn finding

  -- a close clause: without a leaf it has the pacing of its stream's eval clause
  abbrev pub IsCloseFound : List FoundPacing → ℕ → Stream → FoundPacing → Type 0
  IsCloseFound evals n s finding = IsClauseFound n s.place (has_clause s.spawn) (only_pacing (finding_at evals n)) s.close finding

-- of the clause that a window stands in
abbrev pub finding_of_part : List FoundPacing → List FoundPacing → List FoundPacing → ℕ → Part → FoundPacing
finding_of_part spawns evals closes n part.Spawn = finding_at spawns n
finding_of_part spawns evals closes n part.Eval = finding_at evals n
finding_of_part spawns evals closes n part.Close = finding_at closes n

-- what stands against each window
abbrev pub AreWindowRefusals : List FoundPacing → List FoundPacing → List FoundPacing → List WindowSpec → List (Option Code) → Type 0
AreWindowRefusals spawns evals closes [] [] = Unit {0}
AreWindowRefusals spawns evals closes [] (v ∷ vs) = ⊥
AreWindowRefusals spawns evals closes (w ∷ ws) [] = ⊥
AreWindowRefusals spawns evals closes (w ∷ ws) (v ∷ vs) = IsWindowRefusal (finding_of_part spawns evals closes w.stream w.part) w.over v × AreWindowRefusals spawns evals closes ws vs

-- what is found of all streams' own pacings, of the three clauses of each stream, and what stands against windows
pub record AreFound (spec : Spec) (owns spawns evals closes : List FoundPacing) (window_refusals : List (Option Code)) : Type 0 where
  pub are_own : AreOwn 0 spec.streams owns
  pub are_spawns : InStep (IsSpawnFound spec.streams owns) 0 spec.streams spawns
  pub are_evals : InStep (IsEvalFound spec.streams owns) 0 spec.streams evals
  pub are_closes : InStep (IsCloseFound spec.streams owns evals) 0 spec.streams closes
  pub are_window_refusals : AreWindowRefusals spawns evals closes spec.windows window_refusals

-- all that the phase finds
pub record Found (spec : Spec) : Type 0 where
  pub owns : List FoundPacing
  pub spawns : List FoundPacing
  pub evals : List FoundPacing
  pub closes : List FoundPacing
  pub window_refusals : List (Option Code)
  pub are : AreFound spec owns spawns evals closes window_refusals

module _ (streams : List Stream) (spawns evals closes : List FoundPacing) (window_refusals : List (Option Code)) where
  -- the refusals of stream n
  abbrev pub stream_refusals : ℕ → Stream → List Refusal
  stream_refusals n s =
      clause_refusals streams evals window_refusals (finding_at spawns n) s.spawn
      ++ (clause_refusals streams evals window_refusals (finding_at evals n) s.eval
      ++ clause_refusals streams evals window_refusals (finding_at closes n) s.close)

  -- of the streams from number n on
  abbrev pub refusals_from : ℕ → List Stream → List Refusal
  refusals_from n [] = []
  refusals_from n (s ∷ ss) = stream_refusals n s ++ refusals_from (n + 1) ss

-- all refusals of the phase
abbrev pub refusals_of : (spec : Spec) → Found spec → List Refusal
refusals_of spec f = refusals_from spec.streams f.spawns f.evals f.closes f.window_refusals 0 spec.streams

abbrev pub pacing_of : FoundPacing → Option Pacing
pacing_of (Paced p) = Some p
pacing_of (Refused r) = None
pacing_of Unpaced = None

-- the pacings of the streams from number n on
abbrev pub pacings_from : List FoundPacing → List FoundPacing → List FoundPacing → ℕ → List Stream → List ClausePacings
pacings_from spawns evals closes n [] = []
pacings_from spawns evals closes n (s ∷ ss) =
    record { spawn = pacing_of (finding_at spawns n); eval = pacing_of (finding_at evals n); close = pacing_of (finding_at closes n) }
    ∷ pacings_from spawns evals closes (n + 1) ss

-- these are the pacings of all clauses, and nothing is refused
pub record ArePacings (spec : Spec) (pacings : List ClausePacings) : Type 0 where
  pub found : Found spec
  pub accepted : refusals_of spec found ≡ []
  pub are : pacings ≡ pacings_from found.spawns found.evals found.closes 0 spec.streams

-- this is the first refusal
pub record IsRefused (spec : Spec) (r : Refusal) : Type 0 where
  pub found : Found spec
  pub first : IsFirstIn (refusals_of spec found) r
