-- Steps that come by a rule, and the first deadline that an engine is told.
use Rattle.std.specs.Prelude.{ℕ, ◌≡◌, List, [], ◌∷◌, ◌++◌, Option, Some, None, Bool, if◌then◌else◌}
use Rattle.lola_clock.specs.Clock.{ClockState, first_to_come}
use Rattle.lola_value.specs.Naming.{Naming}
use Rattle.lola_model.specs.Dues.{due_in, due_seen}
use Rattle.lola_model.specs.Faults.{fault_of_last}
use Rattle.lola_model.specs.Model.{Next, last_row, model}
use Rattle.lola_model.specs.NextStep.{below_or, due, due_of_streams, earlier, open_after, open_from}
use Rattle.lola_model.specs.Runs.{content_after}
use Rattle.lola_model.specs.Standing.{StandsBetween}
use Rattle.lola_model.specs.Store.{Memories, Seen}
use Rattle.lola_model.specs.Table.{Step, TableRow}
use Rattle.lola_model.specs.declared.plan.Plan.{Plan}

-- behind these steps others come by a rule, one after the other; none but the last of all has a fault
abbrev pub Come : Plan → ℕ → Next → List Step → List Step → Type 0
Come plan start next steps [] = Unit {0}
Come plan start next steps (x ∷ more) =
    (fault_of_last (last_row (model plan start steps)) ≡ None) × (next (model plan start steps) ≡ Some x) × Come plan start next (steps ++ x ∷ []) more

-- the deadlines below a moment
abbrev pub deadlines_below : Plan → ℕ → ℕ → Next
deadlines_below plan start limit table = below_or (due plan table start) limit None

-- from when on deadlines are open behind a table: before the first row from the start on
abbrev pub opened_at : ℕ → Option TableRow → ℕ
opened_at start None = start
opened_at start (Some row) = open_after row.step

-- the first deadline that is open: by a clock, and by a store where some clause is local
abbrev pub due_told : Bool → ClockState → Seen → ℕ → Option ℕ
due_told local clock s from = earlier (first_to_come clock) (if local then due_seen s from else None)

-- a store that stands for the content behind a table tells the next deadline of the instances that live behind it
abbrev pub TellsDue : Plan → Memories → Seen → Type 0
TellsDue plan remembers s =
    (names : Naming) (start : ℕ) (rows : List TableRow) → StandsBetween names remembers s (content_after plan start rows)
    → due_in (open_from (last_row rows)) s.layout.streams s.streams ≡ due_of_streams plan rows 0 plan.spec.streams
