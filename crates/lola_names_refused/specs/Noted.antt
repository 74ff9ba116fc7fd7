-- What a phase has noted once it has found further refusals.
use Rattle.std.specs.Prelude.{◌≡◌, List, [], ◌∷◌, Option, Some}
use Rattle.lola_value.specs.declared.front.Refusal.{Refusal}
use Rattle.lola_model.specs.Refusals.{earlier}

-- behind what is noted, these are found one after another
abbrev pub noted : Option Refusal → List Refusal → Option Refusal
noted so_far [] = so_far
noted so_far (r ∷ rs) = noted (earlier so_far (Some r)) rs

-- a call found these
abbrev pub Finds : List Refusal → Option Refusal → Option Refusal → Type 0
Finds rs old new = new ≡ noted old rs
