-- What becomes of a new store that goes on from there.
use Rattle.std.specs.Prelude.{ℕ, ◌≡◌, ◌+◌, ◌≤◌, List, [], ◌∷◌, ◌++◌, Option, Some, None, true, map, slice_get, MatchOption}
use Rattle.lola_value.specs.declared.value.Params.{Params}
use Rattle.lola_model.specs.Store.{New, Phase, Running, Seen, SeenStream, Started, changed_at, newborn_seen}
use Rattle.lola_panes.specs.declared.partial.Partial.{Partial}
use Rattle.lola_instances_one.specs.Holdings.{Holdings}
use Rattle.lola_instances_stream.specs.Births.{newborn}
use Rattle.lola_instances_stream.specs.Crowds.{Crowd}
use Rattle.lola_instances_stream.specs.Restoring.{HasPanesRestored}
use Rattle.lola_instances.specs.declared.phase.StorePhase.{StorePhase}
use Rattle.lola_instances.specs.declared.phase.StorePhase.TheVariants as phase
use Rattle.lola_instances.specs.declared.store.BoundedStore.{BoundedStore}
use Rattle.lola_instances.specs.Saved.{instance_at, places_in}

-- how far it is

-- where time counts from a start, and the last row came at a time
abbrev pub phase_at : Option ℕ → Option ℕ → Phase
phase_at None last = New
phase_at (Some start) None = Started start
phase_at (Some start) (Some last) = Running start last

-- how many steps it shows: behind a last row it is in the step that is over, in which all is restored, and which is one more
abbrev pub steps_at : Option ℕ → ℕ → ℕ
steps_at None steps = steps
steps_at (Some last) steps = steps + 1

-- a last row there is only where there is a start, and not before it
abbrev pub FollowsStart : Option ℕ → Option ℕ → Type 0
FollowsStart None None = Unit {0}
FollowsStart None (Some last) = ⊥
FollowsStart (Some start) None = Unit {0}
FollowsStart (Some start) (Some last) = start ≤ last

-- behind a last row the spawn clause of each stream has run in the step that is over
abbrev pub all_spawned : Option ℕ → List SeenStream → List SeenStream
all_spawned None ss = ss
all_spawned (Some last) ss = map (λ (x : SeenStream). record x { spawned = true }) ss

-- after `resume_at`
abbrev pub after_resume : Seen → Option ℕ → Option ℕ → ℕ → Seen
after_resume s start last steps = record s { phase = phase_at start last; steps = steps_at last steps; streams = all_spawned last s.streams }

-- the same of the store itself

abbrev pub store_phase_at : Option ℕ → Option ℕ → StorePhase
store_phase_at None last = phase.New
store_phase_at (Some start) None = phase.Started start
store_phase_at (Some start) (Some last) = phase.Running start last

-- a stream whose spawn clause ran in the step of a number
abbrev pub spawned_in : ℕ → Crowd → Crowd
spawned_in step c = record c { spawned_at = step }

abbrev pub resumed : Option ℕ → ℕ → List Crowd → List Crowd
resumed None step cs = cs
resumed (Some last) step cs = map (spawned_in step) cs

-- its instances

-- after `restore`
abbrev pub after_restore : Seen → ℕ → ℕ → Params → Seen
after_restore s n born p = record s { streams = changed_at s.streams n (λ x. record x { instances = x.instances ++ newborn_seen born p ∷ [] }) }

-- an instance of a stream with no value yet
abbrev pub newborn_of : Option Crowd → ℕ → Params → Option Holdings
newborn_of None born p = None
newborn_of (Some c) born p = Some (newborn c.layout.kept c.windows born p)

-- of the stream of a number
abbrev pub newborn_in : BoundedStore → ℕ → ℕ → Params → Option Holdings
newborn_in s n born p = newborn_of (slice_get s.streams.items n) born p

-- the instance of a stream at a place became another one, and no other was touched
pub record IsInstanceChanged (R : Holdings → Holdings → Type 0) (n i : ℕ) (old new : BoundedStore) : Type 0 where
  pub x : Holdings
  pub y : Holdings
  pub was : instance_at old n i ≡ Some x
  pub is : instance_at new n i ≡ Some y
  pub others : (m j : ℕ) → (m ≡ n → j ≡ i → ⊥) → instance_at new m j ≡ instance_at old m j
  pub related : R x y

-- its panes for a window were restored up to a last one, from these partial results, behind so many values in all
abbrev pub HasPanesOf : BoundedStore → ℕ → ℕ → List Partial → ℕ → Holdings → Holdings → Type 0
HasPanesOf s w last parts count x y = MatchOption (slice_get (places_in s) w) ⊥ (λ place. HasPanesRestored last parts count place x y)
