use Rattle.lola_instances_stream.specs.declared.key.Key.{Key}
use Rattle.lola_instances_stream.proofs.directory.put.Goals as goal

pub returns-in-Ok-clause-cell : goal.returns-in-Ok-clause-cell
returns-in-Ok-clause-cell c = λ q. let k : Key = record { 0 = q } in c.in-Ok.ensures.updates.0 k
