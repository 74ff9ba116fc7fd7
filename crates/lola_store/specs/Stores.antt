-- What a store shows, and which earlier values it remembers.
use Rattle.std.specs.Prelude.{ℕ, ◌-◌, List, map}
use Rattle.lola_value.specs.declared.text.Field.{Field}
use Rattle.lola_value.specs.Naming.{Naming}
use Rattle.lola_model.specs.Store.{Seen}
use Rattle.lola_store.specs.declared.store.WholeStore.{WholeStore}
use Rattle.lola_store.specs.Instances.{RecallsAt}
use Rattle.lola_store.specs.Populations.{population_layout, population_seen, instance_at}
use Rattle.lola_instances.specs.Phases.{phase_in, time_in}

-- what it shows
abbrev pub whole_seen : WholeStore → Seen
whole_seen s =
    record {
      layout = record { streams = map population_layout s.streams.items; windows = s.windows; panes = s.sizes };
      phase = phase_in s.phase;
      prepared = s.prepared;
      steps = s.step - 1;
      streams = map (population_seen s.step) s.streams.items;
    }

-- the one list that it remembers for an instance: all its values, read through a naming that has their texts
abbrev pub whole_remembers : WholeStore → Naming → ℕ → ℕ → List (ℕ × Field) → Type 0
whole_remembers s names n i values = RecallsAt (time_in s.phase) s.step names (instance_at s.streams.items n i) values
