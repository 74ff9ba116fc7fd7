-- Streams that read themselves within a step.
use Rattle.std.specs.Prelude.{ℕ, ◌<◌, List, Option, Some, None, ◌⊎◌}
use Rattle.lola_model.specs.Graph.{IsOnZeroWalk, eval_node, spawn_node}
use Rattle.lola_model.specs.declared.graph.Edge.{Edge}

-- a node of the stream lies on a closed walk of weight 0
abbrev pub IsOnCycle : List Edge → ℕ → Type 0
IsOnCycle edges stream = IsOnZeroWalk edges (eval_node stream) ⊎ IsOnZeroWalk edges (spawn_node stream)

-- the least such stream; none where no node lies on a closed walk of weight 0
abbrev pub IsLeastOnCycle : List Edge → Option ℕ → Type 0
IsLeastOnCycle edges (Some stream) = IsOnCycle edges stream × ((m : ℕ) → m < stream → ¬ (IsOnCycle edges m))
IsLeastOnCycle edges None = (n : ℕ) → ¬ (IsOnZeroWalk edges n)
