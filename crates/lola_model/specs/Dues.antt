-- Which deadline of an instance comes next, and which instances have one at a moment, as a store shows it.
use Rattle.std.specs.Prelude.{ℕ, ◌+◌, ◌-◌, List, [], ◌∷◌, Option, Some, None, Bool, false, ◌||◌, if◌then◌else◌, slice_get}
use Rattle.std.specs.Option.{option_and_then}
use Rattle.lola_value.specs.Ratio.{Ratio}
use Rattle.lola_value.specs.Times.{up_to_latest}
use Rattle.lola_model.specs.Activity.{is_deadline}
use Rattle.lola_model.specs.NextStep.{earlier, first_due}
use Rattle.lola_model.specs.Store.{Seen, SeenInstance, SeenStream, StreamLayout, instances_seen}

-- the first deadline, from a moment on, of instances of one stream, at these rates counted from the birth of each
abbrev pub due_among : List Ratio → ℕ → List SeenInstance → Option ℕ
due_among rates from [] = None
due_among rates from (x ∷ xs) = earlier (first_due x.born rates from) (due_among rates from xs)

-- of the instances of streams, each with its layout
abbrev pub due_in : ℕ → List StreamLayout → List SeenStream → Option ℕ
due_in from (l ∷ ls) (s ∷ ss) = earlier (due_among l.locals from s.instances) (due_in from ls ss)
due_in from _ _ = None

-- of all instances that a store shows, if it is a time
abbrev pub due_seen : Seen → ℕ → Option ℕ
due_seen s from = option_and_then up_to_latest (due_in from s.layout.streams s.streams)

-- whether a moment is a deadline of some of these rates, counted from a birth
abbrev pub is_due : List Ratio → ℕ → ℕ → Bool
is_due [] born time = false
is_due (r ∷ rs) born time = is_deadline r (time - born) || is_due rs born time

-- the places of the instances that have a deadline at a moment, of these from a place on
abbrev pub due_from : List Ratio → ℕ → ℕ → List SeenInstance → List ℕ
due_from rates time i [] = []
due_from rates time i (x ∷ xs) = if is_due rates x.born time then i ∷ due_from rates time (i + 1) xs else due_from rates time (i + 1) xs

-- the rates of a stream that count from births, if there is one
abbrev pub locals_of : Option StreamLayout → List Ratio
locals_of None = []
locals_of (Some l) = l.locals

-- the places of the instances of stream n that have a deadline at a moment
abbrev pub due_places : Seen → ℕ → ℕ → List ℕ
due_places s n time = due_from (locals_of (slice_get s.layout.streams n)) time 0 (instances_seen s n)
