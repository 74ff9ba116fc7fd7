-- How far a store is in a step.
use Rattle.std.specs.Prelude.{ℕ, ◌≡◌, ◌≤◌, List, Some, None, true, false, length, slice_get}
use Rattle.lola_value.specs.Naming.{Naming, IsNaming}
use Rattle.lola_value.specs.Times.{latest}
use Rattle.lola_model.specs.Store.{Memories, Seen, Stands, IsRunning, has_spawned, instances_seen, is_silent, layout_of, now_seen, start_seen, time_seen}
use Rattle.lola_model.specs.Model.{most_instances}
use Rattle.lola_model.specs.Table.{Step, TableRow}
use Rattle.lola_model.specs.declared.plan.Plan.{Plan}
use Rattle.lola_model.specs.declared.spec.Stream.{Stream}
use Rattle.lola_model.proofs.Orderly.{AreOfRows}
use Rattle.lola_step_contents.specs.Ready.{HasTexts}
use Rattle.lola_step_contents.specs.Stages.{AreSettled, Stage, content_so_far, is_evaluated, is_spawned}
use Rattle.lola_step.specs.Moments.{IsMoment}
use Rattle.lola_step.specs.Rooms.{rooms}
use Rattle.lola_step.specs.declared.moment.Moment.{Moment}

-- what a store shows that was made for a plan: no stream has more than the most instances, each stream without a spawn clause has its
-- one, and time does not fall
pub record IsOf (plan : Plan) (s : Seen) : Type 0 where
  pub layout : s.layout ≡ layout_of plan
  pub streams : length s.streams ≡ length plan.spec.streams
  pub few : (n : ℕ) → length (instances_seen s n) ≤ most_instances
  pub single : (n : ℕ) (stream : Stream) → slice_get plan.spec.streams n ≡ Some stream → stream.spawn ≡ None → length (instances_seen s n) ≡ 1
  pub order : start_seen s ≤ time_seen s
  pub in_time : time_seen s ≤ latest

-- it is at this stage of a step: what is not done is silent, and no instance was born where the spawn clause is still to come
pub record IsAt (plan : Plan) (g : Stage) (s : Seen) : Type 0 where
  pub of : IsOf plan s
  pub running : IsRunning s
  pub silent : (n i : ℕ) (stream : Stream) → slice_get plan.spec.streams n ≡ Some stream → is_evaluated plan.layers g n stream ≡ false → is_silent (now_seen s n i) ≡ true
  pub unspawned : (n : ℕ) → is_spawned plan.layers g n ≡ false → has_spawned (slice_get s.streams n) ≡ false

-- a step goes on: the same step, with as much room for instances in each stream, and no instance is gone
pub record GoesOn (old new : Seen) : Type 0 where
  pub layout : new.layout ≡ old.layout
  pub phase : new.phase ≡ old.phase
  pub prepared : new.prepared ≡ old.prepared
  pub steps : new.steps ≡ old.steps
  pub rooms : rooms new ≡ rooms old
  pub stay : (n : ℕ) → length (instances_seen old n) ≤ length (instances_seen new n)

-- a naming with the plan's texts, and rows of the table that may stand before a step
pub record IsRun (plan : Plan) (names : Naming) (rows : List TableRow) : Type 0 where
  pub naming : IsNaming names
  pub texts : HasTexts names plan.spec.texts
  pub of_rows : AreOfRows rows
  pub settled : AreSettled plan rows

-- a moment is that of a store in a step, and of some step of a run
pub record IsMomentOf (m : Moment) (s : Seen) : Type 0 where
  pub start_is : m.start ≡ start_seen s
  pub time_is : m.time ≡ time_seen s
  pub step : Step
  pub is : IsMoment m.start step m

-- a run at a stage of a step, through this naming: what the store stands for
pub record IsRunAt (plan : Plan) (m : Moment) (g : Stage) (remembers : Memories) (s : Seen) (names : Naming) (rows : List TableRow) (step : Step) : Type 0 where
  pub run : IsRun plan names rows
  pub moment : IsMoment m.start step m
  pub stands : Stands names remembers s (content_so_far plan m.start rows step g)

-- in each run: a store that stood at one stage stands at another
abbrev pub TakesTo : Plan → Moment → Stage → Stage → Memories → Seen → Memories → Seen → Type 0
TakesTo plan m g h remembers s remembers' s' =
    (names : Naming) (rows : List TableRow) (step : Step) → IsRunAt plan m g remembers s names rows step → IsRunAt plan m h remembers' s' names rows step
