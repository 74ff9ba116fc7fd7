use Rattle.lola_instances_stream.proofs.Finding.{found_below}
use Rattle.lola_instances_stream.proofs.instances.Instances.now.Goals as goal

pub slot-requires : goal.slot-requires
slot-requires c = found_below c.args.params.now c.args.self.now.slots c.in-Some.i c.in-Some.ensures
