use Rattle.std.proofs.Common.{◌∙◌, ap}
use Rattle.lola_instances_stream.specs.Births.{births_of}
use Rattle.lola_instances_stream.specs.Crowds.{Crowd}
use Rattle.lola_instances_stream.specs.Dues.{due_since, in_time}
use Rattle.lola_instances_stream.proofs.Dues.{due_known}
use Rattle.lola_instances_stream.proofs.instances.Instances.local_due.Goals as goal

pub returns : goal.returns
returns c =
    let dues = c.self.inside.dues in
    c.next.ensures
    ∙ due_known dues.rates c.args.from dues.births (births_of c.self.inside.slots.items) c.self.invariant.2.births
    ∙ ap (λ (k : Crowd). in_time (due_since k.layout.locals c.args.from (births_of k.slots))) c.self.view_is
