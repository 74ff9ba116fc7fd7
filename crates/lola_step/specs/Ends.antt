-- What is found once the streams of a step are evaluated.
use Rattle.std.specs.Prelude.{ℕ, ◌≡◌, ◌+◌, List, [], ◌∷◌, ◌++◌, Option, map, None, if◌then◌else◌}
use Rattle.lola_value.specs.declared.value.FaultKind.{FaultKind}
use Rattle.lola_value.specs.declared.value.Outcome.{Outcome}
use Rattle.lola_value.specs.Naming.{Naming}
use Rattle.lola_model.specs.Content.{content}
use Rattle.lola_model.specs.Store.{Memories, Seen, Stands}
use Rattle.lola_model.specs.Table.{Step, StreamRow, TableRow}
use Rattle.lola_model.specs.declared.journal.Show.{Show}
use Rattle.lola_model.specs.declared.plan.Plan.{Plan}
use Rattle.lola_model.specs.declared.spec.Stream.{Stream}
use Rattle.lola_step_contents.specs.Ends.{RowValue, closing_fault, closings, evaluation_fault, values_among}
use Rattle.lola_step_contents.specs.Stages.{full_row}
use Rattle.lola_step.specs.Found.{is_hidden}
use Rattle.lola_step.specs.Moments.{IsMoment}
use Rattle.lola_step.specs.Notes.{AreNoted, AreStepValuesHeld, places_of, read_fault, read_step_value}
use Rattle.lola_step.specs.Progress.{IsRun}
use Rattle.lola_step.specs.declared.spawn_result.SpawnResult.{SpawnResult}
use Rattle.lola_step.specs.declared.moment.Moment.{Moment}
use Rattle.lola_step.specs.declared.scratch.Span.{Span}
use Rattle.lola_step.specs.declared.tasks.Task.{Task}
use Rattle.lola_step.specs.declared.step_value.StepValue.{StepValue}

-- in each run of which all is noted so, that is the fault of spawn clauses and instances
abbrev pub FindsFault : Plan → List SpawnResult → List Span → List Task → List Outcome → Option (ℕ × FaultKind) → Type 0
FindsFault plan spawn_results spans tasks results found =
    (names : Naming) (start : ℕ) (rows : List TableRow) (step : Step) → IsRun plan names rows
    → AreNoted plan (full_row plan start rows step).streams names spawn_results spans tasks results
    → read_fault found ≡ evaluation_fault plan start rows step

-- the values of a row that may have lines, by the streams' numbers and in the order of birth, from stream n on
abbrev pub shown_values : Show → ℕ → List Stream → List StreamRow → List RowValue
shown_values show n (s ∷ ss) (y ∷ ys) = (if is_hidden show s then [] else values_among n y.living) ++ shown_values show (n + 1) ss ys
shown_values show n _ _ = []

-- in each run of which all is noted so, and for whose row the store stands, these are its values that may have lines, and their texts are held
abbrev pub CollectsStepValues : Plan → Show → List Span → List Task → List Outcome → Memories → Seen → List StepValue → Type 0
CollectsStepValues plan show spans tasks results remembers s step_values =
    (names : Naming) (start : ℕ) (rows : List TableRow) (step : Step) (spawn_results : List SpawnResult) → IsRun plan names rows
    → AreNoted plan (full_row plan start rows step).streams names spawn_results spans tasks results
    → Stands names remembers s (content start rows (full_row plan start rows step))
    → (map (read_step_value names) step_values ≡ shown_values show 0 plan.spec.streams (full_row plan start rows step).streams) × AreStepValuesHeld names step_values

-- in each run for whose row the store stands, that is the fault of close clauses; and without one these instances are to be closed
abbrev pub FindsClosings : Plan → Moment → Memories → Seen → Option (ℕ × FaultKind) → List Task → Type 0
FindsClosings plan m remembers s found closing =
    (names : Naming) (rows : List TableRow) (step : Step) → IsRun plan names rows → IsMoment m.start step m
    → Stands names remembers s (content m.start rows (full_row plan m.start rows step))
    → (read_fault found ≡ closing_fault plan m.start rows step) × (found ≡ None → places_of closing ≡ closings plan m.start rows step)
