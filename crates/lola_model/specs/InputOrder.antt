-- The order of sets of inputs: by the lists of their inputs' numbers.
use Rattle.std.specs.Prelude.{ℕ, ◌<◌, ◌≡◌, ◌⊎◌, List, [], ◌∷◌, true, false, filter}
use Rattle.std.proofs.Common.{zero, suc}
use Rattle.lola_model.specs.Implication.{has_input}
use Rattle.lola_model.specs.declared.pacing.InputSet.{InputSet}

-- so many numbers in a row
abbrev pub numbers_from : ℕ → ℕ → List ℕ
numbers_from first zero = []
numbers_from first (suc count) = first ∷ numbers_from (suc first) count

-- the numbers of a set's inputs, ascending
unfoldable pub inputs_of : InputSet → List ℕ
inputs_of s = filter (has_input s.0) (numbers_from 0 64)

-- one list of numbers stands before another, as in a dictionary
abbrev pub IsBefore : List ℕ → List ℕ → Type 0
IsBefore xs [] = ⊥
IsBefore [] (y ∷ ys) = Unit {0}
IsBefore (x ∷ xs) (y ∷ ys) = (x < y) ⊎ ((x ≡ y) × IsBefore xs ys)

-- one set stands before another where its list of inputs does
pub record ComesBefore (s t : InputSet) : Type 0 where
  pub lists : IsBefore (inputs_of s) (inputs_of t)

-- the least input that only one of two sets has is in the first
pub record HasLeastOther (s t : InputSet) : Type 0 where
  pub input : ℕ
  pub within : input < 64
  pub has : has_input s.0 input ≡ true
  pub lacks : has_input t.0 input ≡ false
  pub same : (k : ℕ) → k < input → has_input s.0 k ≡ has_input t.0 k
