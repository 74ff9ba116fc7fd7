-- Flags on streams, by number of stream, and streams that are noted to be looked at.
use Rattle.std.specs.Prelude.{ℕ, ◌≡◌, ◌≢◌, ◌+◌, ◌<◌, ◌↔◌, suc, List, [], ◌∷◌, Bool, true, false, Contains, AllPairs, length, slice_get, ◌⊎◌}
use Rattle.std.specs.List.{slice_index_or}
use Rattle.lola_model.specs.declared.spec.Stream.{Stream}
use Rattle.lola_model.specs.Leaves.{IsVisited, list_at, is_end_of}

abbrev pub IsFlagged : List Bool → ℕ → Type 0
IsFlagged flags n = slice_index_or flags n false ≡ true

-- how many streams have no flag
abbrev pub unflagged : List Bool → ℕ
unflagged [] = 0
unflagged (true ∷ bs) = unflagged bs
unflagged (false ∷ bs) = suc (unflagged bs)

-- no stream has a flag
abbrev pub IsBlank : List Bool → Type 0
IsBlank flags = (n : ℕ) → ¬ (IsFlagged flags n)

-- a stream is one of these, and not the own one
abbrev pub IsOther : ℕ → List ℕ → ℕ → Type 0
IsOther own ns n = Contains ns n × (n ≢ own)

-- the streams of a list but the own one are flagged, and noted where they had no flag
pub record Flags (own : ℕ) (ns : List ℕ) (old : List Bool) (noted : List ℕ) (new : List Bool) (notes : List ℕ) : Type 0 where
  pub kept : (n : ℕ) → IsFlagged old n → IsFlagged new n
  pub flagged : (n : ℕ) → IsOther own ns n → IsFlagged new n
  pub fresh : (n : ℕ) → IsFlagged new n → IsFlagged old n ⊎ (IsOther own ns n × Contains notes n)
  pub held : (n : ℕ) → Contains noted n → Contains notes n
  pub only : (n : ℕ) → Contains notes n → Contains noted n ⊎ IsOther own ns n
  pub left : unflagged new + length notes ≡ unflagged old + length noted

-- so far: what is flagged is visited, and what is followed behind it is flagged too, unless it is still noted
pub record Searched (lists : List (List ℕ)) (own : ℕ) (first : List ℕ) (flags : List Bool) (waiting : List ℕ) : Type 0 where
  pub visited : (n : ℕ) → IsFlagged flags n → IsVisited lists own first n
  pub listed : (n : ℕ) → Contains waiting n → IsFlagged flags n
  pub begun : (n : ℕ) → IsOther own first n → IsFlagged flags n
  pub onward : (n : ℕ) → IsFlagged flags n → Contains waiting n ⊎ ((m : ℕ) → IsOther own (list_at lists n) m → IsFlagged flags m)

-- exactly the streams that are visited have a flag
abbrev pub FlagsVisited : List (List ℕ) → ℕ → List ℕ → List Bool → Type 0
FlagsVisited lists own first flags = (n : ℕ) → IsFlagged flags n ↔ IsVisited lists own first n

-- a stream below this number that is flagged, and at which the search ends
pub record IsEndBelow (streams : List Stream) (flags : List Bool) (count n : ℕ) : Type 0 where
  pub below : n < count
  pub flagged : IsFlagged flags n
  pub ends : is_end_of (slice_get streams n) ≡ true

-- all of them, in order
pub record AreEndsBelow (streams : List Stream) (flags : List Bool) (count : ℕ) (leaves : List ℕ) : Type 0 where
  pub ordered : AllPairs (λ m n. m < n) leaves
  pub members : (n : ℕ) → Contains leaves n ↔ IsEndBelow streams flags count n
