-- Which streams have a spawn clause.
use Rattle.std.specs.Prelude.{ℕ, ◌≡◌, Bool, true, false, ◌||◌, List, [], ◌∷◌, Some, slice_get, nat_eq}
use Rattle.lola_instances_stream.specs.Crowds.{Crowd}

-- a number is one of these
abbrev pub is_among : ℕ → List ℕ → Bool
is_among n [] = false
is_among n (m ∷ ns) = nat_eq n m || is_among n ns

-- the number of each stream with a spawn clause is one of these
abbrev pub AreNumbered : List Crowd → List ℕ → Type 0
AreNumbered cs ns = (n : ℕ) (c : Crowd) → slice_get cs n ≡ Some c → c.layout.spawns ≡ true → is_among n ns ≡ true
