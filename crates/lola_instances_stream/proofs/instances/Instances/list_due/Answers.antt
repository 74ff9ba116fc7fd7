use Rattle.std.proofs.Common.{◌∙◌, ap}
use Rattle.lola_instances_stream.specs.Births.{births_of}
use Rattle.lola_instances_stream.specs.Crowds.{Crowd}
use Rattle.lola_instances_stream.specs.Dues.{due_at_births}
use Rattle.lola_instances_stream.proofs.Dues.{places_known}
use Rattle.lola_instances_stream.proofs.instances.Instances.list_due.Goals as goal

pub returns-clause-places : goal.returns-clause-places
returns-clause-places c =
    let dues = c.self.inside.dues in
    c.list.ensures.places
    ∙ places_known dues.rates c.args.time dues.births (births_of c.self.inside.slots.items) c.self.invariant.2.births
    ∙ ap (λ (k : Crowd). due_at_births k.layout.locals c.args.time (births_of k.slots)) c.self.view_is
