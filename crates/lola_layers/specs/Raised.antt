-- Layers that are raised until each is above the layers that it reads.
use Rattle.std.specs.Prelude.{ℕ, ◌≡◌, ◌+◌, ◌<◌, pos, List, [], ◌∷◌, Bool, true, false, Contains, length, slice_index}
use Rattle.lola_model.specs.Graph.{IsWalk, AllWeightless}
use Rattle.lola_model.specs.declared.graph.Edge.{Edge}

-- from the node leads a walk of so many edges of weight 0
abbrev pub IsReached : List Edge → ℕ → ℕ → Type 0
IsReached edges n layer = (walk : List Edge) × (to : ℕ) × IsWalk edges n walk to × AllWeightless walk × (length walk ≡ layer)

-- from each node leads a walk of as many such edges as its layer says
abbrev pub AreReached : List Edge → List ℕ → Type 0
AreReached edges layers = (n : ℕ) → IsReached edges n (slice_index layers n)

-- along these edges, if of weight 0, the layer falls
abbrev pub AreFalling : List Edge → List ℕ → Type 0
AreFalling edges layers = (e : Edge) → Contains edges e → e.weight ≡ pos 0 → slice_index layers e.to < slice_index layers e.from

-- all layers together
abbrev pub total : List ℕ → ℕ
total [] = 0
total (x ∷ xs) = x + total xs

-- some layer was raised, or none was, and they fall along these edges
abbrev pub IsRaised : List Edge → List ℕ → List ℕ → Bool → Type 0
IsRaised edges old new true = total old < total new
IsRaised edges old new false = (new ≡ old) × AreFalling edges new
