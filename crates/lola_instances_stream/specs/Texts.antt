-- Which texts the instances of a stream hold.
use Rattle.std.specs.Prelude.{List, flat_map}
use Rattle.lola_value.specs.declared.value.TextId.{TextId}
use Rattle.lola_instances_one.specs.Texts.{slot_texts}
use Rattle.lola_instances_stream.specs.Crowds.{Crowd}

-- the numbers of the texts that they hold, one instance after another
abbrev pub crowd_texts : Crowd → List TextId
crowd_texts c = flat_map slot_texts c.slots
