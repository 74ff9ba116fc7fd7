-- How many nodes a graph has: all numbers up to the greatest that stands in an edge.
use Rattle.std.specs.Prelude.{ℕ, ◌+◌, List, [], ◌∷◌, max}
use Rattle.lola_model.specs.declared.graph.Edge.{Edge}

-- one more than the greatest node of an edge, 0 where there are no edges
abbrev pub node_count : List Edge → ℕ
node_count [] = 0
node_count (e ∷ es) = max (max (e.from + 1) (e.to + 1)) (node_count es)
