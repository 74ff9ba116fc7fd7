-- The laws.
use Rattle.std.proofs.Common.{◌⊎◌, inl, inr, ℕ, List, Option, Some, None}
use Rattle.lola_graph.specs.Cycle.{IsLeastOnCycle}
use Rattle.lola_model.specs.declared.graph.Edge.{Edge}
use Rattle.lola_front_law.specs.Planned.{FindsBounds, FindsLayers, HasLayers}
use Rattle.lola_front_law.proofs.BoundsFound.{bounds_of}
use Rattle.lola_front_law.proofs.CyclesFound.{cycle_of}
use Rattle.lola_front_law.proofs.LayersFound.{layers_of}

layers_or : (edges : List Edge) (o : Option ℕ) → IsLeastOnCycle edges o → HasLayers edges ⊎ ((stream : ℕ) × IsLeastOnCycle edges (Some stream))
layers_or edges None none = let l = layers_of edges none in inl (record { layers = l.0; acyclic = none; each = l.1; count = l.2 })
layers_or edges (Some stream) least = inr (stream, least)

pub finds_layers : FindsLayers
finds_layers edges small = let c = cycle_of edges small in layers_or edges c.0 c.1

pub finds_bounds : FindsBounds
finds_bounds spec pacings paned = bounds_of spec pacings paned
