use Rattle.std.proofs.Common.{◌≡◌, ◌++◌, drop}
use Rattle.std.specs.Prelude.{flat_map}
use Rattle.lola_instances_one.specs.Texts.{slot_texts}
use Rattle.lola_instances_stream.proofs.instances.Instances.texts.Given as goal

abbrev pub invariant-loop-i : goal.invariant-loop-i
invariant-loop-i l = l.into ++ flat_map slot_texts (drop l.i l.self.slots) ≡ l.fn.into ++ flat_map slot_texts l.self.slots
