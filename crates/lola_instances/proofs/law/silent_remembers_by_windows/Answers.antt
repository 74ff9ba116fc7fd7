use Rattle.std.proofs.Common.{refl}
use Rattle.lola_instances.specs.Streams.{slot_at}
use Rattle.lola_instances.proofs.Windowed.{silent_by_windows}
use Rattle.lola_instances.proofs.law.silent_remembers_by_windows.Goals as goal

pub returns : goal.returns
returns c = λ names n i values silent h. let s = c.args._store.now in silent_by_windows s names n i values (slot_at s.streams.items n i) refl silent h
