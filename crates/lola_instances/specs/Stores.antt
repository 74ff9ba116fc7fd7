-- What a store shows, and which earlier values it remembers.
use Rattle.std.specs.Prelude.{ℕ, ◌-◌, List, map, slice_get}
use Rattle.lola_value.specs.declared.text.Field.{Field}
use Rattle.lola_value.specs.declared.value.Value.{Value}
use Rattle.lola_value.specs.Naming.{Naming}
use Rattle.lola_model.specs.Store.{Seen, target_of}
use Rattle.lola_panes.specs.declared.pane.Pane.{Pane}
use Rattle.lola_instances_stream.specs.Crowds.{crowd_seen, RemembersAt}
use Rattle.lola_instances.specs.declared.store.BoundedStore.{BoundedStore}
use Rattle.lola_instances.specs.Phases.{phase_in, start_in, time_in}
use Rattle.lola_instances.specs.Streams.{crowd_layout, panes_of, slot_at, values_of}

-- what it shows
abbrev pub bounded_seen : BoundedStore → Seen
bounded_seen s =
    record {
      layout = record { streams = map crowd_layout s.streams.items; windows = s.windows; panes = s.sizes };
      phase = phase_in s.phase;
      prepared = s.prepared;
      steps = s.step - 1;
      streams = map (crowd_seen s.step) s.streams.items;
    }

-- the lists of values that an instance may have had: they end as its last values do, and its panes stand for them
abbrev pub bounded_remembers : BoundedStore → Naming → ℕ → ℕ → List (ℕ × Field) → Type 0
bounded_remembers s names n i values = RemembersAt (start_in s.phase) (time_in s.phase) s.step names (slot_at s.streams.items n i) values

-- the values that it keeps of an instance
abbrev pub values_kept : BoundedStore → ℕ → ℕ → List Value
values_kept s n i = values_of (slot_at s.streams.items n i)

-- the panes that it keeps of a window onto an instance
abbrev pub panes_kept : BoundedStore → ℕ → ℕ → List Pane
panes_kept s w i = panes_of (slot_at s.streams.items (target_of (slice_get s.windows w)) i) (slice_get s.places.items w)
