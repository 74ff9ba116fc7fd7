-- The texts of a list.
use Rattle.std.specs.Prelude.{ℕ, List, map, Vec}
use Rattle.std.specs.declared.alloc.Global.{Global}

-- the texts
abbrev pub texts_in : List (Vec ℕ Global) → List (List ℕ)
texts_in ks = map (λ (k : Vec ℕ Global). k.items) ks
