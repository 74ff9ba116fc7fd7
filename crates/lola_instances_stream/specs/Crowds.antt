-- The instances of a stream, what others see of them in a step, and which earlier values they remember.
use Rattle.std.specs.Prelude.{ℕ, ◌+◌, List, [], ◌∷◌, Option, Some, None, map, nat_eq, slice_get, if◌then◌else◌}
use Rattle.lola_value.specs.declared.text.Field.{Field}
use Rattle.lola_value.specs.declared.value.Outcome.{Outcome}
use Rattle.lola_value.specs.declared.value.Outcome.TheVariants as outcome
use Rattle.lola_value.specs.declared.value.Params.{Params}
use Rattle.lola_value.specs.Kinds.{same_params}
use Rattle.lola_value.specs.Naming.{Naming}
use Rattle.lola_model.specs.Store.{SeenStream, StreamLayout}
use Rattle.lola_instances_one.specs.declared.window.WindowPanes.{WindowPanes}
use Rattle.lola_instances_one.specs.Holdings.{Holdings, shown, slot_seen}
use Rattle.lola_instances_one.specs.Memories.{Remembers}

-- what a store has to know of the stream, the windows onto it, the steps in which it was poisoned last and in which its
-- spawn clause ran last, 0 for none, its instances in order of birth, how many there is room for, and how many were made
-- ahead
pub record Crowd : Type 0 where
  pub layout : StreamLayout
  pub windows : List WindowPanes
  pub bad_at : ℕ
  pub spawned_at : ℕ
  pub slots : List Holdings
  pub capacity : ℕ
  pub spares : ℕ

-- the same, written as a row
abbrev pub crowd : StreamLayout → List WindowPanes → ℕ → ℕ → List Holdings → ℕ → ℕ → Crowd
crowd layout windows bad_at spawned_at slots capacity spares =
    record { layout = layout; windows = windows; bad_at = bad_at; spawned_at = spawned_at; slots = slots; capacity = capacity; spares = spares }

-- what others see of it in the step of a number
abbrev pub crowd_seen : ℕ → Crowd → SeenStream
crowd_seen step c =
    record { bad = nat_eq c.bad_at step; spawned = nat_eq c.spawned_at step; instances = map (slot_seen step) c.slots }

-- the place of the instance with these parameters, if it lives, where the first one is at a place
abbrev pub place_in : Params → List Holdings → ℕ → Option ℕ
place_in p [] i = None
place_in p (s ∷ ss) i = if same_params p s.params then Some i else place_in p ss (i + 1)

-- the outcome of an instance in a step, if there is one
abbrev pub shown_at : ℕ → Option Holdings → Outcome
shown_at step None = outcome.Missing
shown_at step (Some s) = shown step s

-- the outcome of the instance at a place, if there is one
abbrev pub shown_among : ℕ → List Holdings → Option ℕ → Outcome
shown_among step ss None = outcome.Missing
shown_among step ss (Some i) = shown_at step (slice_get ss i)

-- the outcome in a step of the instance with these parameters: poison where the stream is poisoned
abbrev pub now_in : ℕ → Crowd → Params → Outcome
now_in step c p = if nat_eq c.bad_at step then outcome.Poison else shown_among step c.slots (place_in p c.slots 0)

-- the instance may have had these values before this step
abbrev pub RemembersAt : ℕ → ℕ → ℕ → Naming → Option Holdings → List (ℕ × Field) → Type 0
RemembersAt start time step names None values = ⊥
RemembersAt start time step names (Some s) values = Remembers start time step names s values
