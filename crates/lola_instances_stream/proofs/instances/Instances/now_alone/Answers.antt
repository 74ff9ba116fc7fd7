use Rattle.lola_model.specs.Store.{no_params}
use Rattle.lola_instances_stream.proofs.Finding.{found_below}
use Rattle.lola_instances_stream.proofs.instances.Instances.now_alone.Goals as goal

pub slot-requires : goal.slot-requires
slot-requires c = found_below no_params c.args.self.now.slots c.in-Some.first c.in-Some.ensures
