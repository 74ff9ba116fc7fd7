-- What a stream's instances show, and what is true of them.
use Rattle.std.specs.Prelude.{ℕ, ◌≡◌, ◌+◌, ◌≤◌, List, [], ◌∷◌, ◌++◌, Option, Some, None, Bool, true, map, length, slice_get, nat_eq, vec_len}
use Rattle.std.specs.Vec.{vec_capacity}
use Rattle.lola_value.specs.declared.value.Params.{Params}
use Rattle.lola_value.specs.declared.value.Outcome.TheVariants as outcome
use Rattle.lola_model.specs.Store.{SeenStream, StreamLayout}
use Rattle.lola_store.specs.declared.instance.Instance.{Instance}
use Rattle.lola_store.specs.declared.population.Population.{Population}
use Rattle.lola_instances_stream.specs.Each.{Each}
use Rattle.lola_instances_stream.specs.Rights.{owed}
use Rattle.lola_store.specs.Instances.{instance_seen, InstanceRight}

-- what a store has to know of a stream
abbrev pub population_layout : Population → StreamLayout
population_layout l = record { kind = l.kind; parameters = l.parameters; spawns = l.spawns; kept = l.kept; locals = l.locals.items }

-- what others see of a stream in the step of a number
abbrev pub population_seen : ℕ → Population → SeenStream
population_seen step l =
    record { bad = nat_eq l.bad_at step; spawned = nat_eq l.spawned_at step; instances = map (instance_seen step) l.lives.items }

-- the instances of a stream, if there is one
abbrev pub lives_in : Option Population → List Instance
lives_in None = []
lives_in (Some l) = l.lives.items

-- an instance of a stream, by their places
abbrev pub instance_at : List Population → ℕ → ℕ → Option Instance
instance_at ls n i = slice_get (lives_in (slice_get ls n)) i

-- what is true of every stream
pub record PopulationRight (on prepared : Bool) (step : ℕ) (l : Population) : Type 0 where
  pub bad_le : l.bad_at ≤ step
  pub spawned_le : l.spawned_at ≤ step
  pub few : length l.lives.items ≤ 65536
  pub each : Each (InstanceRight l.kind l.parameters on prepared step) l.lives.items
  pub room : l.spawns ≡ true → vec_len l.lives + owed prepared on step l.spawned_at ≤ vec_capacity l.lives
  pub spares : l.spawns ≡ true → owed prepared on step l.spawned_at ≤ length l.spares.items
  pub spare : Each (λ v. (vec_len v ≡ 0) × (2 ≤ vec_capacity v)) l.spares.items

-- an instance that was just born at this time, in room that was kept for its values
pub record IsNewborn (time : ℕ) (params : Params) (x : Instance) : Type 0 where
  pub params_is : x.params ≡ params
  pub born : x.born ≡ time
  pub told_at : x.told_at ≡ 0
  pub outcome : x.outcome ≡ outcome.Missing
  pub values : x.values.items ≡ []
  pub room : 2 ≤ vec_capacity x.values

-- what a birth at this time makes of a stream: one more instance behind the others, and one spare less
pub record Bore (step time : ℕ) (params : Params) (old new : Population) : Type 0 where
  pub x : Instance
  pub lives : new.lives.items ≡ old.lives.items ++ x ∷ []
  pub newborn : Each (λ v. (vec_len v ≡ 0) × (2 ≤ vec_capacity v)) old.spares.items → IsNewborn time params x
  pub same : new ≡ record old { spawned_at = step; lives = new.lives; spares = new.spares }
  pub len : vec_len new.lives ≡ vec_len old.lives + 1
  pub capacity : vec_capacity new.lives ≡ vec_capacity old.lives
  pub spares : length new.spares.items + 1 ≡ length old.spares.items
  pub spare : Each (λ v. (vec_len v ≡ 0) × (2 ≤ vec_capacity v)) old.spares.items → Each (λ v. (vec_len v ≡ 0) × (2 ≤ vec_capacity v)) new.spares.items
