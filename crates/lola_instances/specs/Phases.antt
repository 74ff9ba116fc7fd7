-- How far a store is.
use Rattle.std.specs.Prelude.{ℕ, Bool, true, false}
use Rattle.lola_model.specs.Store.{Phase, New, Started, Running}
use Rattle.lola_instances.specs.declared.phase.StorePhase.{StorePhase}
use Rattle.lola_instances.specs.declared.phase.StorePhase.TheVariants as phase

-- as the definitions have it
abbrev pub phase_in : StorePhase → Phase
phase_in phase.New = New
phase_in (phase.Started a) = Started a
phase_in (phase.Running a t) = Running a t

-- where time counts from
abbrev pub start_in : StorePhase → ℕ
start_in phase.New = 0
start_in (phase.Started a) = a
start_in (phase.Running a t) = a

-- the time of this step, or the start
abbrev pub time_in : StorePhase → ℕ
time_in phase.New = 0
time_in (phase.Started a) = a
time_in (phase.Running a t) = t

-- a step has begun
abbrev pub is_on : StorePhase → Bool
is_on (phase.Running a t) = true
is_on _ = false
