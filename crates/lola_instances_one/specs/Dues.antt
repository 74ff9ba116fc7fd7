-- The deadlines of the instances of one stream, which count from the birth of each.
use Rattle.std.specs.Prelude.{ℕ, ◌+◌, List, [], ◌∷◌, Option, None, Bool, true, false, if◌then◌else◌}
use Rattle.lola_value.specs.Ratio.{Ratio}
use Rattle.lola_model.specs.Dues.{is_due}
use Rattle.lola_model.specs.NextStep.{earlier, first_due}

-- the first deadline, from a moment on, of instances with these births
abbrev pub due_of_births : List Ratio → ℕ → List ℕ → Option ℕ
due_of_births rates from [] = None
due_of_births rates from (b ∷ bs) = earlier (first_due b rates from) (due_of_births rates from bs)

-- the places of the births that have a deadline at a moment, of these from a place on
abbrev pub due_births : List Ratio → ℕ → ℕ → List ℕ → List ℕ
due_births rates time i [] = []
due_births rates time i (b ∷ bs) = if is_due rates b time then i ∷ due_births rates time (i + 1) bs else due_births rates time (i + 1) bs

-- whether some rate counts from births
abbrev pub is_timed : List Ratio → Bool
is_timed [] = false
is_timed (r ∷ rs) = true

-- the rates, the births of the instances that live, in their order, and how many more there is room for
pub record Timetable : Type 0 where
  pub rates : List Ratio
  pub births : List ℕ
  pub room : ℕ
