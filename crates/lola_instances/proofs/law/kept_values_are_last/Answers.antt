use Rattle.std.proofs.Common.{refl}
use Rattle.lola_instances.specs.Streams.{slot_at}
use Rattle.lola_instances.proofs.Remembered.{kept_last}
use Rattle.lola_instances.proofs.law.kept_values_are_last.Goals as goal

pub returns : goal.returns
returns c = λ names n i values h. let s = c.args._store.now in kept_last s names n i values (slot_at s.streams.items n i) refl h
