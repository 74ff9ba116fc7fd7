-- Which deadline of the instances of a stream comes next, and which of them have one at a moment.
use Rattle.std.specs.Prelude.{ℕ, ◌≡◌, ◌≤◌, true, List, length, Option}
use Rattle.std.specs.Option.{option_and_then}
use Rattle.lola_value.specs.Ratio.{Ratio}
use Rattle.lola_value.specs.Times.{up_to_latest}
use Rattle.lola_instances_one.specs.Holdings.{Holdings}
use Rattle.lola_instances_one.specs.Dues.{Timetable, due_births, due_of_births, is_timed}
use Rattle.lola_instances_stream.specs.Births.{births_of}

-- a moment, if it is a time
abbrev pub in_time : Option ℕ → Option ℕ
in_time t = option_and_then up_to_latest t

-- the first deadline, from a moment on, of rates that count from each of these births
abbrev pub due_since : List Ratio → ℕ → List ℕ → Option ℕ
due_since rates from births = due_of_births rates from births

-- the places of the births that have a deadline at a moment, of rates that count from each
abbrev pub due_at_births : List Ratio → ℕ → List ℕ → List ℕ
due_at_births rates time births = due_births rates time 0 births

-- where some rate counts from births, a timetable has those of these instances, and room for as many as were made ahead
pub record IsDated (slots spares : List Holdings) (t : Timetable) : Type 0 where
  pub births : is_timed t.rates ≡ true → t.births ≡ births_of slots
  pub room : is_timed t.rates ≡ true → length spares ≤ t.room
