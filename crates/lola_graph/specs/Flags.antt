-- Flags on nodes, by number of node, and nodes that are noted to be looked at.
use Rattle.std.specs.Prelude.{ℕ, ◌≡◌, ◌+◌, suc, List, [], ◌∷◌, Bool, true, false, Contains, length, ◌⊎◌}
use Rattle.std.specs.List.{slice_index_or}
use Rattle.lola_graph.specs.Paths.{Reaches, read_by}

abbrev pub IsFlagged : List Bool → ℕ → Type 0
IsFlagged flags n = slice_index_or flags n false ≡ true

-- how many nodes have no flag
abbrev pub unflagged : List Bool → ℕ
unflagged [] = 0
unflagged (true ∷ bs) = unflagged bs
unflagged (false ∷ bs) = suc (unflagged bs)

-- these nodes are flagged, and noted where they had no flag
pub record Flags (nodes : List ℕ) (old : List Bool) (noted : List ℕ) (new : List Bool) (notes : List ℕ) : Type 0 where
  pub kept : (n : ℕ) → IsFlagged old n → IsFlagged new n
  pub flagged : (n : ℕ) → Contains nodes n → IsFlagged new n
  pub fresh : (n : ℕ) → IsFlagged new n → IsFlagged old n ⊎ (Contains nodes n × Contains notes n)
  pub held : (n : ℕ) → Contains noted n → Contains notes n
  pub only : (n : ℕ) → Contains notes n → Contains noted n ⊎ Contains nodes n
  pub left : unflagged new + length notes ≡ unflagged old + length noted

-- no node has a flag
abbrev pub IsBlank : List Bool → Type 0
IsBlank flags = (n : ℕ) → ¬ (IsFlagged flags n)

-- exactly the nodes that a node reads, itself or over others, have a flag
pub record FlagsReached (lists : List (List ℕ)) (start : ℕ) (flags : List Bool) : Type 0 where
  pub only : (n : ℕ) → IsFlagged flags n → Reaches lists start n
  pub all : (n : ℕ) → Reaches lists start n → IsFlagged flags n

-- so far: what is flagged is reached, and what it reads is flagged too, unless it is still noted
pub record Searched (lists : List (List ℕ)) (start : ℕ) (flags : List Bool) (waiting : List ℕ) : Type 0 where
  pub reached : (n : ℕ) → IsFlagged flags n → Reaches lists start n
  pub listed : (n : ℕ) → Contains waiting n → IsFlagged flags n
  pub first : (n : ℕ) → Contains (read_by lists start) n → IsFlagged flags n
  pub onward : (n : ℕ) → IsFlagged flags n → Contains waiting n ⊎ ((m : ℕ) → Contains (read_by lists n) m → IsFlagged flags m)
