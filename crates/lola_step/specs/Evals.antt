-- How the instances of a layer are evaluated.
use Rattle.std.specs.Prelude.{ℕ, ◌≡◌, ◌+◌, ◌≤◌, List, length, slice_get, Some, true, vec_len}
use Rattle.std.specs.Global.{Vec}
use Rattle.std.specs.Vec.{vec_capacity}
use Rattle.lola_value.specs.declared.value.Outcome.{Outcome}
use Rattle.lola_value.specs.Naming.{Naming}
use Rattle.lola_model.specs.Model.{is_input}
use Rattle.lola_model.specs.Store.{Memories, Seen}
use Rattle.lola_model.specs.Table.{Step, TableRow}
use Rattle.lola_model.specs.declared.plan.Plan.{Plan}
use Rattle.lola_model.specs.declared.spec.Stream.{Stream}
use Rattle.lola_step_contents.specs.Stages.{Stage, eval_stage, full_row, layer_stage}
use Rattle.lola_step.specs.Notes.{AreEmpty, AreSpawnResults, AreSpans, ShowResults}
use Rattle.lola_step.specs.Progress.{IsRunAt}
use Rattle.lola_step.specs.Rooms.{rooms, to_come, total}
use Rattle.lola_step.specs.declared.spawn_result.SpawnResult.{SpawnResult}
use Rattle.lola_step.specs.declared.moment.Moment.{Moment}
use Rattle.lola_step.specs.declared.scratch.Span.{Span}
use Rattle.lola_step.specs.declared.tasks.Task.{Task}

-- there is an outcome for each task, room for all instances that are still to be evaluated, and for the places of any stream's
pub record HasRooms (plan : Plan) (g : Stage) (s : Seen) (places : Vec ℕ) (tasks : Vec Task) (results : Vec Outcome) : Type 0 where
  pub each : length tasks.items ≡ length results.items
  pub places_room : total (rooms s) ≤ vec_capacity places
  pub tasks_room : vec_len tasks + to_come plan.layers g 0 plan.spec.streams (rooms s) ≤ vec_capacity tasks
  pub results_room : vec_len results + to_come plan.layers g 0 plan.spec.streams (rooms s) ≤ vec_capacity results

-- a span for each stream: of those that are evaluated within the results, of the others empty
pub record IsReadyFor (plan : Plan) (g : Stage) (s : Seen) (tasks : List Task) (results : List Outcome) (spans : List Span) : Type 0 where
  pub each : length spans ≡ length plan.spec.streams
  pub within : AreSpans s tasks results spans
  pub empty : AreEmpty plan g spans
  pub inputs : (n : ℕ) (stream : Stream) (p : Span) → slice_get plan.spec.streams n ≡ Some stream → is_input stream ≡ true → slice_get spans n ≡ Some p → p.count ≡ 0

-- in each run whose spawn results these are: a store that stood before the instances of a layer stands before the next layer
abbrev pub EvalsTake : Plan → Moment → ℕ → List SpawnResult → Memories → Seen → Memories → Seen → Type 0
EvalsTake plan m layer spawn_results remembers s remembers' s' =
    (names : Naming) (rows : List TableRow) (step : Step) → IsRunAt plan m (eval_stage (length plan.spec.streams) layer) remembers s names rows step
    → AreSpawnResults plan (full_row plan m.start rows step).streams (eval_stage (length plan.spec.streams) layer) spawn_results
    → IsRunAt plan m (layer_stage (length plan.spec.streams) (layer + 1)) remembers' s' names rows step

-- and what showed the outcomes so far shows those of the layer too
abbrev pub ShowsMore : Plan → Moment → ℕ → List SpawnResult → Memories → Seen → List Span → List Task → List Outcome → List Span → List Task → List Outcome → Type 0
ShowsMore plan m layer spawn_results remembers s spans tasks results spans' tasks' results' =
    (names : Naming) (rows : List TableRow) (step : Step) → IsRunAt plan m (eval_stage (length plan.spec.streams) layer) remembers s names rows step
    → AreSpawnResults plan (full_row plan m.start rows step).streams (eval_stage (length plan.spec.streams) layer) spawn_results
    → ShowResults plan (full_row plan m.start rows step).streams (eval_stage (length plan.spec.streams) layer) names spans tasks results
    → ShowResults plan (full_row plan m.start rows step).streams (layer_stage (length plan.spec.streams) (layer + 1)) names spans' tasks' results'
