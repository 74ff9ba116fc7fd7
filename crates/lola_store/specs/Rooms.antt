-- Room that is made, and what stays.
use Rattle.std.specs.Prelude.{◌≡◌, ◌+◌, ◌≤◌, length, vec_len, true}
use Rattle.std.specs.Vec.{vec_capacity}
use Rattle.lola_store.specs.declared.instance.Instance.{Instance}
use Rattle.lola_store.specs.declared.population.Population.{Population}
use Rattle.lola_instances_stream.specs.Each.{Each}
use Rattle.lola_store.specs.Paired.{Paired}

-- the same instance, with no less room
pub record IsAlike (x y : Instance) : Type 0 where
  pub params : y.params ≡ x.params
  pub born : y.born ≡ x.born
  pub told_at : y.told_at ≡ x.told_at
  pub outcome : y.outcome ≡ x.outcome
  pub values : y.values.items ≡ x.values.items
  pub len : vec_len y.values ≡ vec_len x.values
  pub capacity : vec_capacity x.values ≤ vec_capacity y.values

-- room for two more values
pub record IsRoomy (x : Instance) : Type 0 where
  pub room : vec_len x.values + 2 ≤ vec_capacity x.values

-- the same stream, with no less room
pub record IsKept (l k : Population) : Type 0 where
  pub rest : k ≡ record l { lives = k.lives; spares = k.spares }
  pub lives : Paired IsAlike l.lives.items k.lives.items
  pub len : vec_len k.lives ≡ vec_len l.lives
  pub capacity : vec_capacity l.lives ≤ vec_capacity k.lives
  pub spares : length l.spares.items ≤ length k.spares.items
  pub spare : Each (λ v. (vec_len v ≡ 0) × (2 ≤ vec_capacity v)) l.spares.items → Each (λ v. (vec_len v ≡ 0) × (2 ≤ vec_capacity v)) k.spares.items

-- room for two more values in each instance, and for two more instances
pub record IsReady (l : Population) : Type 0 where
  pub each : Each IsRoomy l.lives.items
  pub lives : l.spawns ≡ true → vec_len l.lives + 2 ≤ vec_capacity l.lives
  pub spares : l.spawns ≡ true → 2 ≤ length l.spares.items
