-- Texts with their numbers.
use Rattle.std.specs.Prelude.{ℕ, ◌≡◌, ◌<◌, ◌+◌, ◌⊎◌, List, [], ◌∷◌, ◌++◌, Option, Some, None, length, slice_get}
use Rattle.lola_value.specs.declared.value.TextId.{TextId}

-- Where n numbers are known, these are used one after another, each a known number or else the next new one; then m are known.
abbrev pub IsInOrder : ℕ → List ℕ → ℕ → Type 0
IsInOrder n [] m = n ≡ m
IsInOrder n (i ∷ is) m = ((i < n) × IsInOrder n is m) ⊎ ((i ≡ n) × IsInOrder (n + 1) is m)

-- a text has this number in the new list: one that it had in the old list, or that of the only text behind the old list
pub record NumbersText (text : List ℕ) (id : ℕ) (old new : List (List ℕ)) : Type 0 where
  pub there : slice_get new id ≡ Some text
  pub more : List (List ℕ)
  pub grown : new ≡ old ++ more
  pub in_order : IsInOrder (length old) (id ∷ []) (length new)

-- the one place of a text, if it is listed
abbrev pub IsPlaceIn : List (List ℕ) → List ℕ → Option TextId → Type 0
IsPlaceIn texts text (Some id) = (slice_get texts id.0 ≡ Some text) × ((i : ℕ) → slice_get texts i ≡ Some text → i ≡ id.0)
IsPlaceIn texts text None = (i : ℕ) → slice_get texts i ≡ Some text → ⊥
