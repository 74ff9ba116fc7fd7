-- How one spawn clause goes.
use Rattle.std.specs.Prelude.{ℕ, ◌≡◌, ◌+◌, ◌<◌, List, Bool, true, false, if◌then◌else◌, length, slice_get, IsTrue}
use Rattle.lola_value.specs.declared.value.Params.{Params}
use Rattle.lola_value.specs.Naming.{Naming, IsNaming}
use Rattle.lola_model.specs.Content.{Content}
use Rattle.lola_model.specs.Model.{most_instances, spawned_in}
use Rattle.lola_model.specs.Store.{IsRunning, Memories, Seen, Stands, after_poison_stream, after_spawn, has_spawned, instances_seen, parameters_of, spawns_in}
use Rattle.lola_model.specs.Table.{Step, StreamRow, TableRow}
use Rattle.lola_model.specs.declared.plan.Plan.{Plan}
use Rattle.lola_step_contents.specs.Nexts.{after_asking, did_of}
use Rattle.lola_step_contents.specs.Stages.{Stage, full_row, is_spawned, spawn_stage}
use Rattle.lola_step.specs.Clauses.{IsSpawningHeld, IsWellNamed, read_spawning}
use Rattle.lola_step.specs.Notes.{done_of, spawn_result_of}
use Rattle.lola_step.specs.Progress.{GoesOn, IsAt, IsRunAt, TakesTo}
use Rattle.lola_step.specs.declared.clauses.Spawning.{Spawning}
use Rattle.lola_step.specs.declared.spawn_result.SpawnResult.{SpawnResult}
use Rattle.lola_step.specs.declared.moment.Moment.{Moment}

-- stream n of a store in a step has a spawn clause, and no instance of it was born in the step
pub record MaySpawn (s : Seen) (n : ℕ) : Type 0 where
  pub running : IsRunning s
  pub stream : n < length s.layout.streams
  pub spawns : IsTrue (spawns_in (slice_get s.layout.streams n))
  pub first : has_spawned (slice_get s.streams n) ≡ false

-- what is asked for has parameters of the kinds of stream n
abbrev pub IsFor : Seen → ℕ → Spawning → Type 0
IsFor s n asked = IsWellNamed (parameters_of (slice_get s.layout.streams n)) asked

-- what a store shows after a spawn clause of stream n: an instance may be born, and the stream may be bad
abbrev pub after_clause : Seen → ℕ → Params → Bool → Bool → Seen
after_clause s n p born bad = if bad then after_poison_stream (after_spawn s n p born) n else after_spawn s n p born

-- none is born that there is no room for
pub record IsAfterClause (old : Seen) (n : ℕ) (new : Seen) : Type 0 where
  pub params : Params
  pub born : Bool
  pub bad : Bool
  pub room : born ≡ true → length (instances_seen old n) < most_instances
  pub is : new ≡ after_clause old n params born bad

-- a store stands for what becomes of a content where this is asked for, and the spawn result says what the clause did then
pub record IsTakenFor (asked : Spawning) (n : ℕ) (spawn_result : SpawnResult) (names : Naming) (c : Content) (remembers' : Memories) (s' : Seen) : Type 0 where
  pub stands : Stands names remembers' s' (after_asking (read_spawning names asked) c n)
  pub spawn_results : spawn_result ≡ spawn_result_of (did_of (read_spawning names asked) c n)

-- whatever a store stood for before
abbrev pub IsTaken : Spawning → ℕ → SpawnResult → Memories → Seen → Memories → Seen → Type 0
IsTaken asked n spawn_result remembers s remembers' s' =
    (names : Naming) (c : Content) → IsNaming names → IsSpawningHeld names asked → Stands names remembers s c → IsTakenFor asked n spawn_result names c remembers' s'

-- the spawn result of stream n at a stage
abbrev pub spawn_result_at : Plan → List StreamRow → Stage → ℕ → SpawnResult
spawn_result_at plan full g n = spawn_result_of (done_of (is_spawned plan.layers g n) (spawned_in (slice_get full n)))

-- in each run at a stage in which the spawn result of stream n is this one, the other is its spawn result at the next stage
abbrev pub SpawnResultsNext : Plan → Moment → Stage → Stage → ℕ → SpawnResult → SpawnResult → Memories → Seen → Type 0
SpawnResultsNext plan m g h n spawn_result spawn_result' remembers s =
    (names : Naming) (rows : List TableRow) (step : Step) → IsRunAt plan m g remembers s names rows step
    → spawn_result ≡ spawn_result_at plan (full_row plan m.start rows step).streams g n → spawn_result' ≡ spawn_result_at plan (full_row plan m.start rows step).streams h n

-- a layer's spawn clauses go on by one stream
pub record IsNextSpawn (plan : Plan) (m : Moment) (layer n : ℕ) (spawn_result spawn_result' : SpawnResult) (remembers : Memories) (s : Seen) (remembers' : Memories) (s' : Seen) : Type 0 where
  pub at : IsAt plan (spawn_stage (length plan.spec.streams) layer (n + 1)) s'
  pub goes_on : GoesOn s s'
  pub takes : TakesTo plan m (spawn_stage (length plan.spec.streams) layer n) (spawn_stage (length plan.spec.streams) layer (n + 1)) remembers s remembers' s'
  pub spawn_results : SpawnResultsNext plan m (spawn_stage (length plan.spec.streams) layer n) (spawn_stage (length plan.spec.streams) layer (n + 1)) n spawn_result spawn_result' remembers s
