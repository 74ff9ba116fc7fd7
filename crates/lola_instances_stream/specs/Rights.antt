-- What is true of the instances of a stream.
use Rattle.std.specs.Prelude.{ℕ, ◌≡◌, ◌+◌, ◌-◌, ◌≤◌, ◌<◌, Bool, true, false, not, ◌&&◌, List, length, nat_eq, if◌then◌else◌, IsTrue}
use Rattle.lola_value.specs.declared.value.Kind.{Kind}
use Rattle.lola_value.specs.Kinds.{are_of_kinds, is_outcome_of, is_well_formed}
use Rattle.lola_value.specs.Naming.{the_values}
use Rattle.lola_model.specs.Store.{StreamLayout, is_silent}
use Rattle.lola_instances_one.specs.declared.window.WindowPanes.{WindowPanes}
use Rattle.lola_instances_one.specs.Holdings.{Holdings, AllOf}
use Rattle.lola_instances_one.specs.Telling.{AllGiven}
use Rattle.lola_instances_one.specs.Texts.{KeepsOutcome}
use Rattle.lola_instances_one.specs.Unborn.{AllOnto, AllPanesOf, AllSound, unborn}
use Rattle.lola_instances_stream.specs.Cells.{Line}
use Rattle.lola_instances_stream.specs.Crowds.{Crowd}
use Rattle.lola_instances_stream.specs.Each.{Each}

-- whatever the step: the kinds are those of the stream, it keeps so many values, the newest of which is the one that it was
-- given last, and its panes are those of the windows
pub record IsSteady (layout : StreamLayout) (windows : List WindowPanes) (s : Holdings) : Type 0 where
  pub outcome : IsTrue (is_outcome_of layout.kind s.outcome)
  pub capacity : s.ring.capacity ≡ layout.kept
  pub values : AllOf layout.kind s.ring.values
  pub newest : KeepsOutcome s
  pub kinds : IsTrue (are_of_kinds layout.parameters (the_values s.params))
  pub formed : IsTrue (is_well_formed s.params)
  pub panes : AllPanesOf windows s.panes

-- in the step of a number, at an offset from the start: its outcome is not of a later step, and its panes were given no
-- value behind the offset, and fewer than steps began until that of its outcome
pub record IsTimely (kind : Kind) (step offset : ℕ) (s : Holdings) : Type 0 where
  pub stamp_le : s.stamp ≤ step
  pub told : s.stamp ≡ step → IsTrue (not (is_silent s.outcome))
  pub given : AllGiven offset (s.stamp - 1) kind s.panes

-- it was given nothing
pub record IsUntold (step : ℕ) (s : Holdings) : Type 0 where
  pub stamp_lt : s.stamp < step
  pub values : length s.ring.values ≡ 0

-- all of it; before the first step it was given nothing
pub record SlotRight (layout : StreamLayout) (windows : List WindowPanes) (running : Bool) (step offset : ℕ) (s : Holdings) : Type 0 where
  pub steady : IsSteady layout windows s
  pub timely : IsTimely layout.kind step offset s
  pub untold : running ≡ false → IsUntold step s

-- of each instance
abbrev pub AreSteady : Crowd → Type 0
AreSteady c = Each (IsSteady c.layout c.windows) c.slots

abbrev pub AreTimely : ℕ → ℕ → Crowd → Type 0
AreTimely step offset c = Each (IsTimely c.layout.kind step offset) c.slots

abbrev pub AreRight : Bool → ℕ → ℕ → Crowd → Type 0
AreRight running step offset c = Each (SlotRight c.layout c.windows running step offset) c.slots

-- how many births there may still be without new memory: one in this step, if the spawn clause did not run yet, and one in
-- the next, if that is prepared
abbrev pub owed : Bool → Bool → ℕ → ℕ → ℕ
owed prepared running step spawned_at = (if prepared then 1 else 0) + (if running && not (nat_eq spawned_at step) then 1 else 0)

-- of a stream, with the room that its births want
pub record CrowdRight (running prepared : Bool) (step offset : ℕ) (c : Crowd) : Type 0 where
  pub bad_le : c.bad_at ≤ step
  pub spawned_le : c.spawned_at ≤ step
  pub kept : 1 ≤ c.layout.kept
  pub few : length c.slots ≤ 65536
  pub each : AreRight running step offset c
  pub room : c.layout.spawns ≡ true → length c.slots + owed prepared running step c.spawned_at ≤ c.capacity
  pub spares : c.layout.spawns ≡ true → owed prepared running step c.spawned_at ≤ c.spares

-- what instances are made from, and those that were made ahead, which have no value
pub record IsSettled (kind : Kind) (kept : ℕ) (windows : List WindowPanes) (spares : List Holdings) : Type 0 where
  pub kept_ge : 1 ≤ kept
  pub sound : AllSound windows
  pub onto : AllOnto kind windows
  pub blank : Each (λ s. s ≡ unborn kept windows) spares

-- a table of those that live has room for as many as were made ahead, where one is kept
abbrev pub HasPlaces : List Holdings → Line → Type 0
HasPlaces spares slots = slots.is_kept ≡ true → length spares ≤ slots.room
