-- Two lists side by side.
use Rattle.std.specs.Prelude.{List, [], ◌∷◌}

-- two lists side by side, each element related to its own
abbrev pub Paired : {X : Type 0} → (X → X → Type 0) → List X → List X → Type 0
Paired R [] [] = Unit {0}
Paired R (x ∷ xs) (y ∷ ys) = R x y × Paired R xs ys
Paired R _ _ = ⊥
