-- What a store finds of local deadlines, said of deadlines.
use Rattle.std.specs.Prelude.{ℕ, ◌≡◌, ◌<◌, ◌≤◌, ◌↔◌, List, Some, slice_get, Contains, AllPairs}
use Rattle.lola_value.specs.Times.{latest}
use Rattle.lola_model.specs.Dues.{due_places, due_seen, locals_of}
use Rattle.lola_model.specs.NextStep.{IsDeadlineSince, IsLeast}
use Rattle.lola_model.specs.StepOrder.{AreRates}
use Rattle.lola_model.specs.Store.{Seen, SeenInstance, instances_seen}

-- what a store has for local rates are rates above 0
abbrev pub HasLocalRates : Seen → Type 0
HasLocalRates s = (stream : ℕ) → AreRates (locals_of (slice_get s.layout.streams stream))

-- a deadline of an instance that lives, by a local rate of its stream, counted from its birth
pub record IsLocalDeadline (s : Seen) (time : ℕ) : Type 0 where
  pub stream : ℕ
  pub instance : SeenInstance
  pub lives : Contains (instances_seen s stream) instance
  pub counts : IsDeadlineSince instance.born (locals_of (slice_get s.layout.streams stream)) time

-- what a store tells is the first of these, at a moment or later and no later than the latest time, or that there is none
abbrev pub NextIsFirst : Type 0
NextIsFirst = (s : Seen) → HasLocalRates s → (from : ℕ) → IsLeast (λ time. IsLocalDeadline s time × (from ≤ time) × (time ≤ latest)) (due_seen s from)

-- the instance at a place of a stream has a deadline at a moment
pub record IsDueAt (s : Seen) (stream time place : ℕ) : Type 0 where
  pub instance : SeenInstance
  pub at : slice_get (instances_seen s stream) place ≡ Some instance
  pub counts : IsDeadlineSince instance.born (locals_of (slice_get s.layout.streams stream)) time

-- the places of the instances that have one: of each once, of no others, and in ascending order
pub record AreDuePlaces (s : Seen) (stream time : ℕ) (places : List ℕ) : Type 0 where
  pub ascending : AllPairs (λ (a b : ℕ). a < b) places
  pub members : (place : ℕ) → Contains places place ↔ IsDueAt s stream time place

-- what a store lists is this list, and no other is
abbrev pub PlacesAreDue : Type 0
PlacesAreDue = (s : Seen) → HasLocalRates s → (stream time : ℕ) (places : List ℕ) → AreDuePlaces s stream time places ↔ (places ≡ due_places s stream time)
