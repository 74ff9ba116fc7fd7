-- Which of some candidates are kept: the least. A candidate is a set of inputs as a number.
use Rattle.std.specs.Prelude.{ℕ, ◌≡◌, ◌<◌, ◌≤◌, List, true, All, AllPairs, Contains, length, map, flat_map, bit_or, insert}
use Rattle.lola_model.specs.Activity.{satisfies_some}
use Rattle.lola_model.specs.Implication.{AreApart}
use Rattle.lola_model.specs.declared.pacing.InputSet.{InputSet}
use Rattle.lola_model.specs.InputOrder.{HasLeastOther}

-- a candidate as a set
abbrev pub set_of : ℕ → InputSet
set_of c = record { 0 = c }

-- a set as a candidate
abbrev pub candidate_of : InputSet → ℕ
candidate_of s = s.0

-- all sets that have what a set of each of two lists has
abbrev pub unions_of : List InputSet → List InputSet → List ℕ
unions_of a b = flat_map (λ (s : InputSet). map (λ (t : InputSet). bit_or s.0 t.0) b) a

-- the least of candidates: each is a candidate, each candidate has all of one of them, and none has all of
-- another
pub record AreLeastOf (candidates : List ℕ) (sets : List InputSet) : Type 0 where
  pub members : All (λ (s : InputSet). Contains candidates s.0) sets
  pub enough : All (λ c. satisfies_some c sets ≡ true) candidates
  pub apart : AllPairs AreApart sets

-- they are at most 256, and listed by the least inputs in which they differ
pub record AreKept (candidates : List ℕ) (sets : List InputSet) : Type 0 where
  pub least : AreLeastOf candidates sets
  pub ordered : AllPairs HasLeastOther sets
  pub few : length sets ≤ 256

-- they are more than 256
pub record AreManyKept (candidates : List ℕ) : Type 0 where
  pub sets : List InputSet
  pub least : AreLeastOf candidates sets
  pub many : 256 < length sets

-- a set is put into an ordered list, and the list stays in order
pub record IsPutIn (set : InputSet) (old new : List InputSet) : Type 0 where
  pub place : ℕ
  pub within : place ≤ length old
  pub is : new ≡ insert old place set
  pub ordered : AllPairs HasLeastOther new
