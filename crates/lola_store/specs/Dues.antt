-- Which deadline of an instance comes next, and which instances have one at a moment.
use Rattle.std.specs.Prelude.{ℕ, ◌+◌, List, [], ◌∷◌, Option, None, if◌then◌else◌}
use Rattle.std.specs.Option.{option_and_then}
use Rattle.lola_value.specs.Ratio.{Ratio}
use Rattle.lola_value.specs.Times.{up_to_latest}
use Rattle.lola_model.specs.Dues.{is_due}
use Rattle.lola_model.specs.NextStep.{earlier, first_due}
use Rattle.lola_store.specs.declared.instance.Instance.{Instance}
use Rattle.lola_store.specs.declared.population.Population.{Population}

-- a moment, if it is a time
abbrev pub if_time : Option ℕ → Option ℕ
if_time due = option_and_then up_to_latest due

-- the first deadline, from a moment on, of these instances, at rates that count from the birth of each
abbrev pub due_of_lives : List Ratio → ℕ → List Instance → Option ℕ
due_of_lives rates from [] = None
due_of_lives rates from (x ∷ xs) = earlier (first_due x.born rates from) (due_of_lives rates from xs)

-- of the instances of streams, each stream at its own rates
abbrev pub due_of_streams : ℕ → List Population → Option ℕ
due_of_streams from [] = None
due_of_streams from (l ∷ ls) = earlier (due_of_lives l.locals.items from l.lives.items) (due_of_streams from ls)

-- the places of the instances that have a deadline at a moment, of these from a place on
abbrev pub due_lives : List Ratio → ℕ → ℕ → List Instance → List ℕ
due_lives rates time i [] = []
due_lives rates time i (x ∷ xs) = if is_due rates x.born time then i ∷ due_lives rates time (i + 1) xs else due_lives rates time (i + 1) xs
