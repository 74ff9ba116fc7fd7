-- Room that is made, and what stays.
use Rattle.std.specs.Prelude.{ℕ, ◌≡◌, ◌+◌, ◌≤◌, List, [], ◌∷◌, Some, slice_get, length, true}
use Rattle.lola_instances_stream.specs.Crowds.{Crowd}
use Rattle.lola_instances.specs.Spawning.{is_among}

-- the same stream, with no less room
pub record IsKept (c d : Crowd) : Type 0 where
  pub rest : d ≡ record c { capacity = d.capacity; spares = d.spares }
  pub capacity : c.capacity ≤ d.capacity
  pub spares : c.spares ≤ d.spares

-- each of its own
abbrev pub AreKept : List Crowd → List Crowd → Type 0
AreKept [] [] = Unit {0}
AreKept (c ∷ cs) (d ∷ ds) = IsKept c d × AreKept cs ds
AreKept _ _ = ⊥

-- room for two more births
pub record IsReady (d : Crowd) : Type 0 where
  pub room : d.layout.spawns ≡ true → length d.slots + 2 ≤ d.capacity
  pub spares : d.layout.spawns ≡ true → 2 ≤ d.spares

-- the same of each stream whose number is one of these
abbrev pub AreReady : List Crowd → List ℕ → Type 0
AreReady cs ns = (n : ℕ) (c : Crowd) → slice_get cs n ≡ Some c → is_among n ns ≡ true → IsReady c
