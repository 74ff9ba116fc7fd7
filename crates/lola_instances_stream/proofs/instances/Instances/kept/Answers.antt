use Rattle.std.proofs.Common.{arith}
use Rattle.lola_instances_stream.proofs.instances.Instances.kept.Goals as goal

pub returns-clause-within : goal.returns-clause-within
returns-clause-within c = omega (arith, c.kept.ensures.capacity, (c.requires.steady c.args.index c.slot.result.now c.slot.ensures).capacity)
