-- The moment of a step, as the code has it.
use Rattle.std.specs.Prelude.{ℕ, ◌≡◌, ◌+◌, ◌-◌, ◌*◌, List, [], ◌∷◌, Option, Some, None, Bool, true, false, option_map, slice_get}
use Rattle.lola_value.specs.declared.text.Field.{Field}
use Rattle.lola_value.specs.declared.value.Outcome.{Outcome}
use Rattle.lola_value.specs.declared.value.Outcome.TheVariants as outcome
use Rattle.lola_value.specs.Naming.{Naming, read_outcome, IsHeldIn}
use Rattle.lola_model.specs.Activity.{is_deadline, present, satisfies_some}
use Rattle.lola_value.specs.Ratio.{Ratio}
use Rattle.lola_model.specs.Dues.{is_due}
use Rattle.lola_model.specs.Model.{field_outcome}
use Rattle.lola_model.specs.NextStep.{local_rate_of}
use Rattle.lola_model.specs.Store.{Seen, SeenInstance, instances_seen}
use Rattle.lola_model.specs.Table.{Step}
use Rattle.lola_model.specs.declared.pacing.Pacing.{Pacing}
use Rattle.lola_model.specs.declared.pacing.Pacing.TheVariants.{Event, Periodic, Local}
use Rattle.lola_step.specs.declared.moment.Moment.{Moment}

-- a pacing at a moment: inputs at a row's, a rate at one of deadlines
abbrev pub active_at : ℕ → ℕ → Option ℕ → Pacing → Bool
active_at start time (Some inputs) (Event sets) = satisfies_some inputs sets
active_at start time None (Periodic r) = is_deadline r (time - start)
active_at start time _ _ = false

-- without a pacing nothing is active
abbrev pub active_in : Moment → Option Pacing → Bool
active_in m None = false
active_in m (Some p) = active_at m.start m.time m.present p

-- a rate that counts from a birth: at a moment of deadlines alone
abbrev pub active_since : Moment → ℕ → Ratio → Bool
active_since m born r = active_at born m.time m.present (Periodic r)

-- for an instance born at a time: a local rate counts from its birth, all else is the same for all instances
abbrev pub active_for_in : Moment → ℕ → Option Pacing → Bool
active_for_in m born (Some (Local r)) = active_since m born r
active_for_in m born p = active_in m p

-- for some instance: a local rate may be active at each moment of deadlines
abbrev pub may_be_active_in : Moment → Option Pacing → Bool
may_be_active_in m (Some (Local r)) = elim m.present [ None ↦ true | Some inputs ↦ false ]
may_be_active_in m p = active_in m p

-- these rates have that of a local pacing: where none of them has a deadline, it has none
abbrev pub IsListedIn : Option Pacing → List Ratio → Type 0
IsListedIn o rates = (born time : ℕ) → is_due rates born time ≡ false → is_due (local_rate_of o) born time ≡ false

-- when an instance was born, if there is one
abbrev pub birth_at : Option SeenInstance → ℕ
birth_at None = 0
birth_at (Some x) = x.born

-- the instance at a place of stream n
abbrev pub born_seen : Seen → ℕ → ℕ → ℕ
born_seen s n i = birth_at (slice_get (instances_seen s n) i)

-- the moment of a step of a run from this start
pub record IsMoment (start : ℕ) (step : Step) (m : Moment) : Type 0 where
  pub start_is : m.start ≡ start
  pub time_is : m.time ≡ step.time
  pub present_is : m.present ≡ option_map present step.fields

-- 1 for a value
abbrev pub bit_of_outcome : Outcome → ℕ
bit_of_outcome (outcome.Value v) = 1
bit_of_outcome _ = 0

-- the set of the inputs that have a value, input i as bit i
abbrev pub present_in : List Outcome → ℕ
present_in [] = 0
present_in (o ∷ os) = bit_of_outcome o + 2 * present_in os

-- each input reads as its field
abbrev pub ReadAs : Naming → List Outcome → List Field → Type 0
ReadAs names [] [] = Unit {0}
ReadAs names (o ∷ os) (f ∷ fs) = (read_outcome names o ≡ field_outcome (Some f)) × IsHeldIn names o × ReadAs names os fs
ReadAs names _ _ = ⊥
