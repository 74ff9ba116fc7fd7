-- Which texts a store holds.
use Rattle.std.specs.Prelude.{ℕ, List, ◌++◌, map, flat_map}
use Rattle.lola_value.specs.declared.value.TextId.{TextId}
use Rattle.lola_value.specs.declared.value.Value.{Value}
use Rattle.lola_value.specs.Naming.{the_values}
use Rattle.lola_text.specs.Needed.{texts_in, text_of_outcome}
use Rattle.lola_store.specs.declared.tally.Timed.{Timed}
use Rattle.lola_store.specs.declared.instance.Instance.{Instance}
use Rattle.lola_store.specs.declared.population.Population.{Population}
use Rattle.lola_store.specs.declared.store.WholeStore.{WholeStore}
use Rattle.lola_store.specs.Instances.{shown}

-- values without their times
abbrev pub items_of : List Timed → List Value
items_of vs = map (λ v. v.item) vs

-- the numbers of the texts of an instance: of its parameters, of its values, and of its outcome in the step of a number
abbrev pub instance_texts : ℕ → Instance → List TextId
instance_texts step x = texts_in (the_values x.params) ++ texts_in (items_of x.values.items) ++ text_of_outcome (shown step x)

-- of a stream's instances, one after another
abbrev pub population_texts : ℕ → Population → List TextId
population_texts step l = flat_map (instance_texts step) l.lives.items

-- of all streams, one after another
abbrev pub whole_texts : WholeStore → List TextId
whole_texts s = flat_map (population_texts s.step) s.streams.items
