-- The names of a table.
use Rattle.std.specs.Prelude.{ℕ, List, map, Vec}
use Rattle.std.specs.declared.alloc.Global.{Global}

-- the names with what they mean
abbrev pub names_in : {M : Type 0} → List (Vec ℕ Global × M) → List (List ℕ × M)
names_in {M} es = map (λ (e : Vec ℕ Global × M). (e.0.items, e.1)) es
