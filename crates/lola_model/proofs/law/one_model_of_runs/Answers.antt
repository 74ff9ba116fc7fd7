-- The law, at this plan.
use Rattle.lola_model.proofs.RunModels.{has_models_of_runs}
use Rattle.lola_model.proofs.law.one_model_of_runs.Goals as goal

pub returns : goal.returns
returns c = has_models_of_runs c.args._plan.now c.requires.acyclic c.requires.rates
