-- Paths within a step, over lists of the nodes that each node reads in the same step.
use Rattle.std.specs.Prelude.{ℕ, ◌≡◌, ◌<◌, pos, List, [], ◌∷◌, Option, Some, None, Contains, length}
use Rattle.std.specs.List.{slice_index_or}
use Rattle.lola_model.specs.declared.graph.Edge.{Edge}

-- the nodes that a node reads, none past the end
abbrev pub read_by : List (List ℕ) → ℕ → List ℕ
read_by lists n = slice_index_or lists n []

-- each node that is read has a list
abbrev pub AreWithin : List (List ℕ) → Type 0
AreWithin lists = (n m : ℕ) → Contains (read_by lists n) m → m < length lists

-- by reads from one node to another, over these nodes in between
abbrev pub IsPath : List (List ℕ) → ℕ → List ℕ → ℕ → Type 0
IsPath lists from [] to = Contains (read_by lists from) to
IsPath lists from (n ∷ ns) to = Contains (read_by lists from) n × IsPath lists n ns to

-- one node reads another, itself or over others
abbrev pub Reaches : List (List ℕ) → ℕ → ℕ → Type 0
Reaches lists from to = (over : List ℕ) × IsPath lists from over to

-- an edge of weight 0 from one node to another
abbrev pub IsRead : List Edge → ℕ → ℕ → Type 0
IsRead edges from to = (e : Edge) × Contains edges e × (e.from ≡ from) × (e.to ≡ to) × (e.weight ≡ pos 0)

-- these are the lists of a graph: they have its edges of weight 0
pub record AreReads (edges : List Edge) (lists : List (List ℕ)) : Type 0 where
  pub sound : (n m : ℕ) → Contains (read_by lists n) m → IsRead edges n m
  pub complete : (n m : ℕ) → IsRead edges n m → Contains (read_by lists n) m

-- the least node that reads itself, itself or over others; none where no node does
abbrev pub IsLeastNode : List (List ℕ) → Option ℕ → Type 0
IsLeastNode lists (Some n) = Reaches lists n n × ((m : ℕ) → m < n → ¬ (Reaches lists m m))
IsLeastNode lists None = (n : ℕ) → ¬ (Reaches lists n n)
