-- What steps note, from one to the next.
use Rattle.std.specs.Prelude.{ℕ, ◌≡◌, ◌+◌, ◌*◌, ◌<◌, ◌≤◌, ◌^◌, List, [], length, map, replicate}
use Rattle.std.specs.Vec.{vec_capacity}
use Rattle.lola_model.specs.Content.{content}
use Rattle.lola_model.specs.Graph.{layer_of}
use Rattle.lola_model.specs.Store.{Memories, Seen, SeenStream, Stands}
use Rattle.lola_model.specs.Table.{Step, TableRow}
use Rattle.lola_model.specs.declared.plan.Plan.{Plan}
use Rattle.lola_value.specs.Naming.{Naming}
use Rattle.lola_step_contents.specs.Stages.{full_row, layer_stage}
use Rattle.lola_step.specs.Notes.{AreNoted}
use Rattle.lola_step.specs.Progress.{IsRunAt}
use Rattle.lola_step.specs.Rooms.{total}
use Rattle.lola_step.specs.Schedules.{IsScheduleOf}
use Rattle.lola_step.specs.Sought.{AreUnsought}
use Rattle.lola_step.specs.declared.spawn_result.SpawnResult.TheVariants as spawn_result
use Rattle.lola_step.specs.declared.moment.Moment.{Moment}
use Rattle.lola_step.specs.declared.scratch.Scratch.{Scratch}
use Rattle.lola_step.specs.declared.scratch.Span.{Span}

-- each list has room for so many instances
pub record HasRoom (n : Scratch) (room : ℕ) : Type 0 where
  pub places : room ≤ vec_capacity n.places
  pub tasks : room ≤ vec_capacity n.tasks
  pub results : room ≤ vec_capacity n.results
  pub closing : room ≤ vec_capacity n.closing
  pub step_values : room ≤ vec_capacity n.step_values

-- what a step needs where each stream has one instance: of each that one, and one that might be born
abbrev pub least_room : Plan → ℕ
least_room plan = 2 * length plan.spec.streams

-- notes of a plan: a spawn result, a span and whereabouts for each stream, where those of streams without parameters are never known, more layers than that of any node, the duties of its streams in each of
-- them, the code of its specification, and at least the least room
pub record IsScratchOf (plan : Plan) (n : Scratch) : Type 0 where
  pub spawn_results : length n.spawn_results.items ≡ length plan.spec.streams
  pub spans : length n.spans.items ≡ length plan.spec.streams
  pub sought : length n.sought.items ≡ length plan.spec.streams
  pub unsought : AreUnsought plan n.sought.items
  pub layers : (node : ℕ) → layer_of plan.layers node < n.layers
  pub few_layers : n.layers ≤ 2 ^ 32
  pub scheduled : length n.schedule.layers.items ≡ n.layers
  pub schedule : IsScheduleOf plan n.schedule
  pub code : n.code ≡ plan.spec
  pub room : HasRoom n (least_room plan)

-- as many instances as a step may have of these streams
abbrev pub of_streams : List SeenStream → ℕ
of_streams ss = total (map (λ x. length x.instances + 1) ss)

-- of all streams
abbrev pub instances_to_come : Seen → ℕ
instances_to_come s = of_streams s.streams

-- of no outcomes
abbrev pub no_span : Span
no_span = record { from = 0; count = 0 }

-- nothing is noted, and there is room for what a step notes
pub record IsFresh (n : Scratch) (room : ℕ) : Type 0 where
  pub spawn_results : n.spawn_results.items ≡ replicate (length n.spawn_results.items) spawn_result.Fine
  pub spans : n.spans.items ≡ replicate (length n.spans.items) no_span
  pub tasks : n.tasks.items ≡ []
  pub results : n.results.items ≡ []
  pub closing : n.closing.items ≡ []
  pub step_values : n.step_values.items ≡ []
  pub places_room : room ≤ vec_capacity n.places
  pub tasks_room : room ≤ vec_capacity n.tasks
  pub results_room : room ≤ vec_capacity n.results
  pub closing_room : room ≤ vec_capacity n.closing
  pub step_values_room : room ≤ vec_capacity n.step_values

-- in each run: where the store stood once the inputs had their outcomes, all is noted now and it stands for all of the model's row
abbrev pub EvaluatesAll : Plan → Moment → Memories → Seen → Memories → Seen → Scratch → Type 0
EvaluatesAll plan m remembers s remembers' s' n =
    (names : Naming) (rows : List TableRow) (step : Step) → IsRunAt plan m (layer_stage (length plan.spec.streams) 0) remembers s names rows step
    → AreNoted plan (full_row plan m.start rows step).streams names n.spawn_results.items n.spans.items n.tasks.items n.results.items
    × Stands names remembers' s' (content m.start rows (full_row plan m.start rows step))
