use Rattle.lola_instances_stream.specs.declared.key.Key.{Key}
use Rattle.lola_instances_stream.proofs.directory.forget.Goals as goal

pub returns-clause-cell : goal.returns-clause-cell
returns-clause-cell c = λ q. let k : Key = record { 0 = q } in c.swap_remove-gone.ensures.updates.0 k
