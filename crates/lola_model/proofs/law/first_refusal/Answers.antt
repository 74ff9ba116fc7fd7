-- The law.
use Rattle.lola_model.proofs.FirstRefusal.{means_first}
use Rattle.lola_model.proofs.law.first_refusal.Goals as goal

pub returns : goal.returns
returns c = means_first
