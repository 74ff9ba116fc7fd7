-- What was loaded of a state into a table of texts and a store.
use Rattle.std.specs.Prelude.{ℕ, ◌≡◌, ◌+◌, ◌-◌, ◌^◌, ◌<◌, ◌≤◌, List, [], ◌∷◌, ◌++◌, Option, Some, None, Bool, true, false, length, map, slice_get, MatchOption}
use Rattle.lola_value.specs.Arithmetic.{all_equal}
use Rattle.lola_value.specs.Kinds.{are_of_kinds, is_of_kind}
use Rattle.lola_value.specs.Naming.{AreHeld, IsHeld, Naming, read, read_params, the_values}
use Rattle.lola_value.specs.declared.text.Field.{Field}
use Rattle.lola_value.specs.declared.value.Kind.{Kind}
use Rattle.lola_value.specs.declared.value.Outcome.TheVariants as outcome
use Rattle.lola_value.specs.declared.value.Params.{Params}
use Rattle.lola_value.specs.declared.value.Value.{Value}
use Rattle.lola_value.specs.Times.{latest}
use Rattle.lola_model.specs.Reading.{IsHeldBy}
use Rattle.lola_model.specs.Store.{IsRunning, Seen, SeenInstance, has_spawned, instances_seen, start_seen, time_seen}
use Rattle.lola_model.specs.declared.spec.WindowSpec.{WindowSpec}
use Rattle.lola_panes.specs.Restored.{AreRestored}
use Rattle.lola_panes.specs.Standing.{Partials, StandFor}
use Rattle.lola_text.specs.Texts.{IsTable, Texts}
use Rattle.lola_instances_one.specs.Holdings.{Holdings}
use Rattle.lola_instances.specs.Saved.{instance_at, panes_at}
use Rattle.lola_instances.specs.Stores.{bounded_remembers, bounded_seen}
use Rattle.lola_instances.specs.declared.store.BoundedStore.{BoundedStore}
use Rattle.lola_save_text.specs.declared.forms.StreamForm.{StreamForm}
use Rattle.lola_save_text.specs.declared.forms.WindowForm.{WindowForm}
use Rattle.lola_save_text.specs.declared.state.SavedInstance.{SavedInstance}
use Rattle.lola_save_text.specs.declared.state.SavedPanes.{SavedPanes}
use Rattle.lola_save_text.specs.declared.state.Times.{Times}
use Rattle.lola_save_text.specs.Restored.{IsRestored}

-- texts

-- a table that has room for more texts
pub record HasRoom (t : Texts) : Type 0 where
  pub table : IsTable t
  pub few : t.given ≤ 2 ^ 61

-- texts were added to a table, which has room for more
pub record HasMore (old new : Texts) : Type 0 where
  pub held : IsHeldBy old.held new.held
  pub room : HasRoom new

-- values

-- a value of a kind is that of a field: it reads so, and its text is held
pub record IsNamed (names : Naming) (k : Kind) (f : Field) (v : Value) : Type 0 where
  pub reads : read names v ≡ f
  pub held : IsHeld names v
  pub kind : is_of_kind k v ≡ true

-- parameters of kinds are those of fields
pub record AreNamed (names : Naming) (ks : List Kind) (fs : List Field) (p : Params) : Type 0 where
  pub reads : read_params names p ≡ fs
  pub held : AreHeld names (the_values p)
  pub kinds : are_of_kinds ks (the_values p) ≡ true

-- one value more, which is that of a field
pub record HasValueMore (names : Naming) (k : Kind) (f : Field) (vs ws : List Value) : Type 0 where
  pub v : Value
  pub named : IsNamed names k f v
  pub more : ws ≡ vs ++ v ∷ []

-- values are those of fields
pub record AreValuesOf (names : Naming) (fs : List Field) (vs : List Value) : Type 0 where
  pub reads : map (read names) vs ≡ fs
  pub held : AreHeld names vs

-- a store in a step, and an instance of stream n at a place

-- a step in which what was saved can be restored: it began, numbers are in their ranges, and time does not fall
pub record CanLoad (s : Seen) : Type 0 where
  pub running : IsRunning s
  pub few : s.steps ≤ 2 ^ 62 + 1
  pub order : start_seen s ≤ time_seen s
  pub in_time : time_seen s ≤ latest

-- what a state tells of times, by what a store shows behind a last row: it is in the step that is over
abbrev pub times_seen : Seen → Times
times_seen s = record { start = Some (start_seen s); last = Some (time_seen s); steps = s.steps - 1 }

-- the instance is there, and has no outcome in this step
pub record IsSilentAt (s : BoundedStore) (n i : ℕ) : Type 0 where
  pub x : SeenInstance
  pub at : slice_get (instances_seen (bounded_seen s) n) i ≡ Some x
  pub silent : x.outcome ≡ outcome.Missing

-- and no value before it
pub record IsBlank (s : BoundedStore) (n i : ℕ) : Type 0 where
  pub silent : IsSilentAt s n i
  pub none : (names : Naming) → bounded_remembers s names n i []

-- it became another one, which shows the same, and no other was touched
pub record ChangesOne (n i : ℕ) (old new : BoundedStore) : Type 0 where
  pub seen : bounded_seen new ≡ bounded_seen old
  pub others : (m j : ℕ) → (m ≡ n → j ≡ i → ⊥) → instance_at new m j ≡ instance_at old m j

-- its panes of the windows onto its stream are the same
abbrev pub KeepsPanes : ℕ → ℕ → BoundedStore → BoundedStore → Type 0
KeepsPanes n i old new = (w : ℕ) (v : WindowSpec) → slice_get (bounded_seen old).layout.windows w ≡ Some v → v.target ≡ n → panes_at new w i ≡ panes_at old w i

-- panes of a window stand for whatever values have the saved ones
abbrev pub StandAsSaved : Kind → WindowForm → Option SavedPanes → Partials → Type 0
StandAsSaved k w None p = StandFor p []
StandAsSaved k w (Some q) p = (all : List (ℕ × Field)) → AreRestored w.how k w.pane q.last q.partials all → StandFor p all

-- those of a window onto an instance
abbrev pub ArePanesLoaded : BoundedStore → ℕ → Kind → WindowForm → Option SavedPanes → Type 0
ArePanesLoaded s i k w o = MatchOption (panes_at s w.number i) ⊥ (StandAsSaved k w o)

-- an instance was loaded from a saved one: through each naming that has these texts it has what was saved of it
pub record IsLoaded (times : Times) (names : Naming) (s : BoundedStore) (n i : ℕ) (form : StreamForm) (saved : SavedInstance) : Type 0 where
  pub x : SeenInstance
  pub at : slice_get (instances_seen (bounded_seen s) n) i ≡ Some x
  pub restored : (more : Naming) → IsHeldBy names more → IsRestored times more (bounded_remembers s) n i form x saved

-- what an instance shows that is to be loaded from a saved one
pub record IsNewborn (names : Naming) (form : StreamForm) (x : SeenInstance) (saved : SavedInstance) : Type 0 where
  pub params : read_params names x.params ≡ saved.params
  pub held : AreHeld names (the_values x.params)
  pub born : form.spawns ≡ true → saved.born ≡ Some x.born

-- through each naming that has these texts no instance of stream n has these parameters
abbrev pub IsUnseen : Naming → BoundedStore → ℕ → List Field → Type 0
IsUnseen names s n fs =
    (i : ℕ) (x : SeenInstance) → slice_get (instances_seen (bounded_seen s) n) i ≡ Some x
    → (more : Naming) → IsHeldBy names more → all_equal fs (read_params more x.params) ≡ false

-- streams

-- an instance that is there stays as it is
abbrev pub StaysAt : BoundedStore → BoundedStore → ℕ → ℕ → Type 0
StaysAt old new m j = (y : Holdings) → instance_at old m j ≡ Some y → instance_at new m j ≡ Some y

-- it is the same step of the same streams
pub record GoesOn (old new : BoundedStore) : Type 0 where
  pub layout : (bounded_seen new).layout ≡ (bounded_seen old).layout
  pub phase : (bounded_seen new).phase ≡ (bounded_seen old).phase
  pub steps : (bounded_seen new).steps ≡ (bounded_seen old).steps
  pub count : length (bounded_seen new).streams ≡ length (bounded_seen old).streams

-- a stream was changed, and no other
pub record ChangesStream (n : ℕ) (old new : BoundedStore) : Type 0 where
  pub on : GoesOn old new
  pub shown : (m : ℕ) → (m ≡ n → ⊥) → slice_get (bounded_seen new).streams m ≡ slice_get (bounded_seen old).streams m
  pub others : (m j : ℕ) → (m ≡ n → ⊥) → StaysAt old new m j

-- a stream has one instance more, behind those that it had
pub record HasBirth (n : ℕ) (old new : BoundedStore) : Type 0 where
  pub stream : ChangesStream n old new
  pub count : length (instances_seen (bounded_seen new) n) ≡ length (instances_seen (bounded_seen old) n) + 1
  pub shown : (i : ℕ) → i < length (instances_seen (bounded_seen old) n) → slice_get (instances_seen (bounded_seen new) n) i ≡ slice_get (instances_seen (bounded_seen old) n) i
  pub others : (i : ℕ) → i < length (instances_seen (bounded_seen old) n) → StaysAt old new n i
  pub over : has_spawned (slice_get (bounded_seen new).streams n) ≡ true

-- the one instance of a stream has no parameters and no value
pub record IsPlain (s : BoundedStore) (n : ℕ) : Type 0 where
  pub one : length (instances_seen (bounded_seen s) n) ≡ 1
  pub params : (x : SeenInstance) → slice_get (instances_seen (bounded_seen s) n) 0 ≡ Some x → the_values x.params ≡ []
  pub blank : IsBlank s n 0

-- a stream of a store that goes on: the one instance of a stream without a spawn clause has no parameters and no value, and another stream
-- has none yet
pub record IsOpen (s : BoundedStore) (n : ℕ) (spawns : Bool) : Type 0 where
  pub plain : spawns ≡ false → IsPlain s n
  pub none : spawns ≡ true → instances_seen (bounded_seen s) n ≡ []
  pub over : has_spawned (slice_get (bounded_seen s).streams n) ≡ true

-- all instances of a stream were loaded
pub record IsStreamLoaded (times : Times) (names : Naming) (s : BoundedStore) (n : ℕ) (form : StreamForm) (saved : List SavedInstance) : Type 0 where
  pub count : length (instances_seen (bounded_seen s) n) ≡ length saved
  pub each : (i : ℕ) (a : SavedInstance) → slice_get saved i ≡ Some a → IsLoaded times names s n i form a

-- and all of each stream
pub record AreStreamsLoaded (times : Times) (names : Naming) (s : BoundedStore) (forms : List StreamForm) (saved : List (List SavedInstance)) : Type 0 where
  pub count : length saved ≡ length forms
  pub each : (n : ℕ) (form : StreamForm) (is : List SavedInstance) → slice_get forms n ≡ Some form → slice_get saved n ≡ Some is → IsStreamLoaded times names s n form is
