-- Which texts an instance holds.
use Rattle.std.specs.Prelude.{◌≡◌, List, ◌++◌, Some}
use Rattle.lola_value.specs.declared.value.TextId.{TextId}
use Rattle.lola_value.specs.declared.value.Value.{Value}
use Rattle.lola_value.specs.declared.value.Outcome.TheVariants as outcome
use Rattle.lola_value.specs.Naming.{the_values}
use Rattle.lola_text.specs.Needed.{texts_in}
use Rattle.lola_buffer.specs.Kept.{before_newest}
use Rattle.lola_instances_one.specs.Holdings.{Holdings}

-- the numbers of the texts of its parameters and of its last values
abbrev pub slot_texts : Holdings → List TextId
slot_texts s = texts_in (the_values s.params) ++ texts_in s.ring.values

-- the value that it was given last is the newest of its last values
abbrev pub KeepsOutcome : Holdings → Type 0
KeepsOutcome s = (v : Value) → s.outcome ≡ outcome.Value v → before_newest 0 s.ring.values ≡ Some v
