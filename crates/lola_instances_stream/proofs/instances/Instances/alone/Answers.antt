-- The first instance of a stream without parameters is found.
use Rattle.std.proofs.Common.{arith, sym}
use Rattle.lola_instances_stream.proofs.Finding.{alone_first}
use Rattle.lola_instances_stream.proofs.instances.Instances.alone.Goals as goal

pub returns-then-instances-gt0 : goal.returns-then-instances-gt0
returns-then-instances-gt0 c =
    sym (alone_first c.args.self.now.layout.parameters c.args.self.now.slots c.requires.none (omega arith) (λ i s at. (c.requires.steady i s at).kinds))
