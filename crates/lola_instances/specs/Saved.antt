-- What is read of a store to save it.
use Rattle.std.specs.Prelude.{ℕ, ◌≡◌, ◌<◌, List, ◌++◌, Option, Some, None, MatchOption, length, map, slice_get}
use Rattle.circular_buffer.specs.Buffer.{keep_last}
use Rattle.lola_value.specs.declared.text.Field.{Field}
use Rattle.lola_value.specs.Naming.{Naming, AreHeld, read, read_outcome}
use Rattle.lola_model.specs.Accesses.{one_more}
use Rattle.lola_model.specs.Store.{instances_seen, kept_in, now_seen, start_seen, target_of, time_seen}
use Rattle.lola_model.specs.declared.spec.WindowSpec.{WindowSpec}
use Rattle.lola_panes.specs.Standing.{Partials, StandFor}
use Rattle.lola_instances_one.specs.Holdings.{Holdings}
use Rattle.lola_instances_one.specs.Memories.{AllSince, shifted}
use Rattle.lola_instances.specs.declared.store.BoundedStore.{BoundedStore}
use Rattle.lola_instances.specs.Stores.{bounded_seen, values_kept}
use Rattle.lola_instances.specs.Streams.{slot_at}

-- an instance, by its stream and its place
abbrev pub instance_at : BoundedStore → ℕ → ℕ → Option Holdings
instance_at s n i = slot_at s.streams.items n i

-- the values that an instance has had, this step's included, where it had these before
abbrev pub values_by_now : BoundedStore → Naming → ℕ → ℕ → List (ℕ × Field) → List (ℕ × Field)
values_by_now s names n i values = values ++ one_more (time_seen (bounded_seen s)) (read_outcome names (now_seen (bounded_seen s) n i))

-- of each window, the place of its panes among those of its target
abbrev pub places_in : BoundedStore → List ℕ
places_in s = s.places.items

-- the panes of an instance for the window at a place, if there are both
abbrev pub partials_of : Option Holdings → Option ℕ → Option Partials
partials_of None k = None
partials_of (Some s) None = None
partials_of (Some s) (Some k) = slice_get s.panes k

-- the panes of a window onto an instance
abbrev pub panes_at : BoundedStore → ℕ → ℕ → Option Partials
panes_at s w i = partials_of (instance_at s (target_of (slice_get s.windows w)) i) (slice_get (places_in s) w)

-- an instance may have had these values before this step, by what is read of it: its last values are theirs, the panes of each window
-- onto its stream stand for them, none came before the start, and the naming has the texts of its last values
pub record MayHaveHadIn (s : BoundedStore) (names : Naming) (n i : ℕ) (values : List (ℕ × Field)) : Type 0 where
  pub lives : i < length (instances_seen (bounded_seen s) n)
  pub last : map (read names) (values_kept s n i) ≡ keep_last (kept_in (slice_get (bounded_seen s).layout.streams n)) (map (λ v. v.1) values)
  pub panes : (w : ℕ) (v : WindowSpec) → slice_get (bounded_seen s).layout.windows w ≡ Some v → v.target ≡ n
      → MatchOption (panes_at s w i) ⊥ (λ p. StandFor p (map (shifted (start_seen (bounded_seen s))) values))
  pub since : AllSince (start_seen (bounded_seen s)) values
  pub held : AreHeld names (values_kept s n i)
