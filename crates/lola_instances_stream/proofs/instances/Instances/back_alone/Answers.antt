use Rattle.std.proofs.Common.{arith}
use Rattle.lola_model.specs.Store.{no_params}
use Rattle.lola_instances_stream.proofs.Finding.{found_below}
use Rattle.lola_instances_stream.proofs.instances.Instances.back_alone.Goals as goal

pub slot-requires : goal.slot-requires
slot-requires c = found_below no_params c.args.self.now.slots c.in-Some.first c.in-Some.ensures

pub back-requires-clause-high : goal.back-requires-clause-high
back-requires-clause-high c = omega (arith, c.requires.k_high, (c.requires.steady c.in-Some.first c.slot.result.now c.slot.ensures).capacity)

pub returns-in-Some-clause-kind : goal.returns-in-Some-clause-kind
returns-in-Some-clause-kind c = c.back.ensures.kind c.args.self.now.layout.kind (c.requires.steady c.in-Some.first c.slot.result.now c.slot.ensures).values
