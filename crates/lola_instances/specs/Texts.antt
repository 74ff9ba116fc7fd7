-- Which texts a store holds.
use Rattle.std.specs.Prelude.{List, flat_map}
use Rattle.lola_value.specs.declared.value.TextId.{TextId}
use Rattle.lola_instances_stream.specs.Texts.{crowd_texts}
use Rattle.lola_instances.specs.declared.store.BoundedStore.{BoundedStore}

-- the numbers of the texts that its streams hold, one stream after another
abbrev pub bounded_texts : BoundedStore → List TextId
bounded_texts s = flat_map crowd_texts s.streams.items
