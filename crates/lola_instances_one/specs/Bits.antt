-- Bits, and sums of equal parts of a list.
use Rattle.std.specs.Prelude.{ℕ, ◌≡◌, Bool, false, cond, List, [], ◌∷◌, ◌++◌, ◌⊎◌, take, drop, replicate, sum_by}

-- what a bit counts
abbrev pub bit : Bool → ℕ
bit b = cond b 1 0

-- rank: how many bits before a place are set
abbrev pub rank : List Bool → ℕ → ℕ
rank bits place = sum_by bit (take place bits)

-- how many are set
abbrev pub ones : List Bool → ℕ
ones bits = sum_by bit bits

-- some bits more, which are not set
pub record Extends (old new : List Bool) : Type 0 where
  pub more : ℕ
  pub bits : new ≡ old ++ replicate more false

-- each number is the sum of the weights of the next `width` in the list, and none is left
abbrev pub AreSums : {X : Type 0} → (X → ℕ) → ℕ → List ℕ → List X → Type 0
AreSums f width [] xs = xs ≡ []
AreSums f width (c ∷ cs) xs = (c ≡ sum_by f (take width xs)) × AreSums f width cs (drop width xs)

-- the same sums, or one more of nothing
abbrev pub IsSameOrLonger : List ℕ → List ℕ → Type 0
IsSameOrLonger old new = (new ≡ old) ⊎ (new ≡ old ++ 0 ∷ [])

-- of 64 bits each, and of 64 of these each
pub record AreCounts (bits : List Bool) (counts tops : List ℕ) : Type 0 where
  pub of_bits : AreSums bit 64 counts bits
  pub of_counts : AreSums (λ n. n) 64 tops counts
