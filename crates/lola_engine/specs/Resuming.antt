-- How far a run has come, and an engine that goes on from there.
use Rattle.std.specs.Prelude.{ℕ, ◌≡◌, ◌+◌, ◌-◌, ◌^◌, ◌<◌, ◌≤◌, List, [], ◌∷◌, Option, Some, None, nat_eq, if◌then◌else◌, length, max}
use Rattle.lola_value.specs.Naming.{Naming}
use Rattle.lola_model.specs.Journal.{accepted, known_start, last_accepted}
use Rattle.lola_model.specs.Runs.{content_after, settled_fault, settled_model}
use Rattle.lola_model.specs.Standing.{StandsBetween}
use Rattle.lola_model.specs.Store.{Memories, New, Phase, Running, Seen, Started, instances_seen, layout_of, new_seen}
use Rattle.lola_model.specs.declared.journal.Entry.{Entry}
use Rattle.lola_model.specs.declared.journal.Row.{Row}
use Rattle.lola_model.specs.declared.plan.Plan.{Plan}
use Rattle.lola_step.specs.Progress.{IsOf}
use Rattle.lola_engine.specs.declared.engine.EngineState.{EngineState}
use Rattle.lola_engine.specs.declared.times.RunTimes.{RunTimes}

-- so far a run has come with the settled steps of a journal
pub record HasReached (plan : Plan) (given_start : Option ℕ) (journal : List Entry) (times : RunTimes) : Type 0 where
  pub start : times.start ≡ known_start given_start (accepted journal)
  pub last : times.last ≡ last_accepted (accepted journal)
  pub steps : times.steps ≡ length (settled_model plan given_start journal)

-- so far an engine has come, with those that ran before it
abbrev pub times_of : EngineState → RunTimes
times_of e = record { start = e.clock.start; last = if nat_eq e.rows 0 then None else Some e.merged; steps = e.behind + e.steps }

-- a last stamp, or, where there is none, the start
abbrev pub last_or_start : Option ℕ → Option ℕ → Option ℕ
last_or_start None start = start
last_or_start (Some last) start = Some last

-- the start of a merge of rows that go on behind those of a run: the stamp of its last row, or, where it had none, where its time counts from
abbrev pub merge_start : RunTimes → Option ℕ
merge_start times = last_or_start times.last times.start

-- how far a store is whose last row came at this time: a last row there is only where there is a start
abbrev pub IsAtTimes : Option ℕ → Option ℕ → Phase → Type 0
IsAtTimes None None phase = phase ≡ New
IsAtTimes None (Some last) phase = ⊥
IsAtTimes (Some start) None phase = phase ≡ Started start
IsAtTimes (Some start) (Some last) phase = phase ≡ Running start last

-- how many steps a store shows that goes on there: behind a last row it is in the step that is over, in which all was restored, and
-- which is one more
abbrev pub steps_at : Option ℕ → ℕ → ℕ
steps_at None steps = steps
steps_at (Some last) steps = steps + 1

-- what a store of a plan shows that was brought to where a run had come
pub record IsRestored (plan : Plan) (times : RunTimes) (s : Seen) : Type 0 where
  pub of : IsOf plan s
  pub phase : IsAtTimes times.start times.last s.phase
  pub steps : s.steps ≡ steps_at times.last times.steps
  pub few : times.steps ≤ 2 ^ 62

-- a store stands for what a run that started here has come to: it is new where the run has no start yet
abbrev pub StandsAfter : Plan → Naming → Memories → Seen → Option ℕ → Option ℕ → List Entry → Type 0
StandsAfter plan names remembers s None given_start journal =
    (s ≡ new_seen (layout_of plan)) × ((other : Naming) (n i : ℕ) → i < length (instances_seen s n) → remembers other n i [])
StandsAfter plan names remembers s (Some start) given_start journal = StandsBetween names remembers s (content_after plan start (settled_model plan given_start journal))

-- a run had come so far with a journal, without a fault, and the store stands for what it had come to
pub record IsLeftAt (plan : Plan) (names : Naming) (remembers : Memories) (s : Seen) (times : RunTimes) (given_start : Option ℕ) (journal : List Entry) : Type 0 where
  pub reached : HasReached plan given_start journal times
  pub fine : settled_fault plan given_start journal ≡ None
  pub stands : StandsAfter plan names remembers s times.start given_start journal

-- the state of an engine that was made and goes on from there: deadlines before the last row are passed, and that row is counted
abbrev pub going_on : Option ℕ → Option ℕ → ℕ → EngineState → EngineState
going_on None last steps e = record e { behind = steps }
going_on (Some start) None steps e = record e { clock = record e.clock { start = Some start; passed = start }; behind = steps; merged = start }
going_on (Some start) (Some last) steps e =
    record e { clock = record e.clock { start = Some start; passed = max start (last - 1) }; behind = steps; rows = 1; merged = last }
