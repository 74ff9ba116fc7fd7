-- The law, at these pacings.
use Rattle.lola_model.proofs.Implied.{means_implication}
use Rattle.lola_model.proofs.law.implication.Goals as goal

pub returns : goal.returns
returns c = means_implication c.args._first.now c.args._second.now
