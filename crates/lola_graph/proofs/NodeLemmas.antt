-- How many nodes a graph has.
use Rattle.std.proofs.Common.{◌≡◌, ◌<◌, ℕ, zero, suc, List, [], ◌∷◌, arith, length}
use Rattle.std.specs.List.{slice_index_or, Contains}
use Rattle.std.proofs.lemmas.List.{get_or_default}
use Rattle.lola_model.specs.declared.graph.Edge.{Edge}
use Rattle.lola_model.specs.Nodes.{node_count}

low_at : (edges : List Edge) (k : ℕ) (e : Edge) → k < length edges → slice_index_or edges k e ≡ e → (e.from < node_count edges) × (e.to < node_count edges)
low_at [] k e lt h = absurd (omega arith)
low_at (x ∷ xs) zero e lt h = rw h (omega arith, omega arith)
low_at (x ∷ xs) (suc k) e lt h = let r = low_at xs k e (omega arith) h in (omega (arith, r.0), omega (arith, r.1))

-- the nodes of an edge are counted
pub node_low : (edges : List Edge) (e : Edge) → Contains edges e → (e.from < node_count edges) × (e.to < node_count edges)
node_low edges e c = low_at edges c.0 e c.1 c.2

-- an edge stands in its list
pub edge_in : (edges : List Edge) (i : ℕ) (d : Edge) → i < length edges → Contains edges (slice_index_or edges i d)
edge_in edges i d lt = (i, lt, get_or_default edges i (slice_index_or edges i d) d lt)
