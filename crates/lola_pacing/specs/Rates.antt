-- The least of some rates.
use Rattle.std.specs.Prelude.{◌≡◌, List, [], ◌∷◌, Option, Some, None}
use Rattle.lola_value.specs.Ratio.{Ratio}
use Rattle.lola_model.specs.PacingFound.{IsLeastRate}

-- an optional rate as a list
abbrev pub list_of : Option Ratio → List Ratio
list_of None = []
list_of (Some r) = r ∷ []

-- the least of these, none where there is none
abbrev pub IsLeastOf : List Ratio → Option Ratio → Type 0
IsLeastOf rates None = rates ≡ []
IsLeastOf rates (Some r) = IsLeastRate rates r
