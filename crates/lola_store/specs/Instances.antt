-- What an instance shows of itself, and which earlier values it recalls.
use Rattle.std.specs.Prelude.{ℕ, ◌≡◌, ◌+◌, ◌-◌, ◌≤◌, ◌<◌, Bool, false, not, vec_len, List, [], ◌∷◌, ◌++◌, Option, Some, None, map, length, slice_get, nat_eq, nat_le, if◌then◌else◌, IsTrue}
use Rattle.lola_value.specs.declared.text.Field.{Field}
use Rattle.lola_value.specs.declared.value.Kind.{Kind}
use Rattle.lola_value.specs.declared.value.Outcome.{Outcome}
use Rattle.lola_value.specs.declared.value.Outcome.TheVariants as outcome
use Rattle.std.specs.Vec.{vec_capacity}
use Rattle.lola_value.specs.declared.value.Params.{Params}
use Rattle.lola_value.specs.Naming.{the_values, Naming, read_outcome, IsHeld, IsHeldIn}
use Rattle.lola_model.specs.Store.{SeenInstance, is_outcome_of, is_silent, same_params, is_well_formed, are_of_kinds}
use Rattle.lola_model.specs.Accesses.{one_more}
use Rattle.lola_instances_stream.specs.Rights.{owed}
use Rattle.lola_store.specs.declared.tally.Timed.{Timed}
use Rattle.lola_store.specs.declared.instance.Instance.{Instance}
use Rattle.lola_store.specs.Tallies.{read_timed, AllOf}

-- an outcome of an earlier step is none of this one
abbrev pub shown : ℕ → Instance → Outcome
shown step x = if nat_eq x.told_at step then x.outcome else outcome.Missing

-- what others see of it in the step of a number
abbrev pub instance_seen : ℕ → Instance → SeenInstance
instance_seen step x = record { params = x.params; born = x.born; outcome = shown step x }

-- a value, if there is one
abbrev pub item_or_missing : Option Timed → Outcome
item_or_missing None = outcome.Missing
item_or_missing (Some v) = outcome.Value v.item

-- the k-th value from the end, from 1
abbrev pub outcome_from_end : List Timed → ℕ → Outcome
outcome_from_end vs k = if nat_le k (length vs) then item_or_missing (slice_get vs (length vs - k)) else outcome.Missing

-- the naming has all their texts
abbrev pub AllHeld : Naming → List Timed → Type 0
AllHeld names [] = Unit {0}
AllHeld names (v ∷ vs) = IsHeld names v.item × AllHeld names vs

-- these are the values before this step, at its time: with this step's they are all that it keeps
pub record Recalls (time step : ℕ) (names : Naming) (x : Instance) (values : List (ℕ × Field)) : Type 0 where
  pub all : map (read_timed names) x.values.items ≡ values ++ one_more time (read_outcome names (shown step x))
  pub held : AllHeld names x.values.items
  pub now_held : IsHeldIn names (shown step x)

-- the place of the instance with these parameters, if it lives
abbrev pub place_in : Params → List Instance → ℕ → Option ℕ
place_in p [] i = None
place_in p (x ∷ xs) i = if same_params p x.params then Some i else place_in p xs (i + 1)

-- the same of an instance that may not be there
abbrev pub RecallsAt : ℕ → ℕ → Naming → Option Instance → List (ℕ × Field) → Type 0
RecallsAt time step names None values = ⊥
RecallsAt time step names (Some x) values = Recalls time step names x values

-- what is true of every instance of a stream with that kind and these parameters
pub record InstanceRight (kind : Kind) (parameters : List Kind) (on prepared : Bool) (step : ℕ) (x : Instance) : Type 0 where
  pub told_le : x.told_at ≤ step
  pub before : on ≡ false → x.told_at < step
  pub told : x.told_at ≡ step → IsTrue (not (is_silent x.outcome))
  pub outcome : IsTrue (is_outcome_of kind x.outcome)
  pub values : AllOf kind x.values.items
  pub kinds : IsTrue (are_of_kinds parameters (the_values x.params))
  pub formed : IsTrue (is_well_formed x.params)
  pub room : vec_len x.values + owed prepared on step x.told_at ≤ vec_capacity x.values
