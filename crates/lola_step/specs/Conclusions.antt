-- How a step is concluded, once its streams are evaluated.
use Rattle.std.specs.Prelude.{◌≡◌, List}
use Rattle.lola_value.specs.declared.value.Outcome.{Outcome}
use Rattle.lola_value.specs.Naming.{Naming}
use Rattle.lola_model.specs.Content.{content}
use Rattle.lola_model.specs.Store.{Memories, Seen, Stands}
use Rattle.lola_model.specs.Table.{Step, TableRow}
use Rattle.lola_model.specs.declared.journal.Show.{Show}
use Rattle.lola_model.specs.declared.plan.Plan.{Plan}
use Rattle.lola_step_contents.specs.Stages.{full_row}
use Rattle.lola_step.specs.Moments.{IsMoment}
use Rattle.lola_step.specs.Notes.{AreNoted}
use Rattle.lola_step.specs.Progress.{IsOf, IsRun}
use Rattle.lola_step.specs.Steps.{StepEnds}
use Rattle.lola_step.specs.declared.end.StepEnd.{StepEnd}
use Rattle.lola_step.specs.declared.end.StepEnd.TheVariants as end
use Rattle.lola_step.specs.declared.spawn_result.SpawnResult.{SpawnResult}
use Rattle.lola_step.specs.declared.moment.Moment.{Moment}
use Rattle.lola_step.specs.declared.scratch.Span.{Span}
use Rattle.lola_step.specs.declared.tasks.Task.{Task}
use Rattle.lola_step.specs.declared.step_value.StepValue.{StepValue}

-- what the store shows once instances are closed
pub record IsConcluded (plan : Plan) (old new : Seen) : Type 0 where
  pub of : IsOf plan new
  pub phase : new.phase ≡ old.phase
  pub steps : new.steps ≡ old.steps

-- by the end of the step, which is not for want of memory
abbrev pub ShowsConcluded : StepEnd → Plan → Seen → Seen → Type 0
ShowsConcluded end.Done plan old new = IsConcluded plan old new
ShowsConcluded (end.Fault stream kind) plan old new = Unit {0}
ShowsConcluded end.Memory plan old new = ⊥

-- in each run of which all is noted so, and for whose row the store stood, the step ends so
abbrev pub Concludes : Plan → Show → Moment → List SpawnResult → List Span → List Task → List Outcome → Memories → Seen → StepEnd → Memories → Seen → List StepValue → Type 0
Concludes plan show m spawn_results spans tasks results remembers s e remembers' s' step_values =
    (names : Naming) (rows : List TableRow) (step : Step) → IsRun plan names rows → IsMoment m.start step m
    → AreNoted plan (full_row plan m.start rows step).streams names spawn_results spans tasks results
    → Stands names remembers s (content m.start rows (full_row plan m.start rows step))
    → StepEnds e plan show m.start rows step names remembers' s' step_values
