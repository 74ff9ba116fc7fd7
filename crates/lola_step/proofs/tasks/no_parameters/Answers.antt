use Rattle.lola_step.proofs.Asked.{none_is}
use Rattle.lola_step.proofs.tasks.no_parameters.Goals as goal

pub returns : goal.returns
returns c = none_is c.none.result c.none.ensures.count c.none.ensures.well_formed
