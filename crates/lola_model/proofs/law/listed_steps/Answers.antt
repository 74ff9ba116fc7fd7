-- The law, at this plan.
use Rattle.lola_model.proofs.RunModels.{has_listed_steps}
use Rattle.lola_model.proofs.law.listed_steps.Goals as goal

pub returns : goal.returns
returns c = has_listed_steps c.args._plan.now c.requires.acyclic c.requires.rates c.requires.global
