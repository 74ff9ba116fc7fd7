-- Instances that were just born.
use Rattle.std.specs.Prelude.{ℕ, Bool, true, false, List, [], ◌∷◌, map}
use Rattle.lola_value.specs.declared.value.Params.{Params}
use Rattle.lola_instances_one.specs.declared.window.WindowPanes.{WindowPanes}
use Rattle.lola_instances_one.specs.Holdings.{Holdings}
use Rattle.lola_instances_one.specs.Unborn.{unborn}

-- an instance with these parameters and no value, born at a time
abbrev pub newborn : ℕ → List WindowPanes → ℕ → Params → Holdings
newborn kept windows time p = record (unborn kept windows) { params = p; born = time }

-- when each instance was born
abbrev pub births_of : List Holdings → List ℕ
births_of slots = map (λ (s : Holdings). s.born) slots

-- the first instances of a stream: one where there is no spawn clause
abbrev pub firsts : Bool → ℕ → List WindowPanes → List Holdings
firsts true kept windows = []
firsts false kept windows = unborn kept windows ∷ []
