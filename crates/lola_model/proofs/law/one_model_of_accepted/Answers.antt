-- The law, at this plan.
use Rattle.lola_model.proofs.Layers.{has_one_model}
use Rattle.lola_model.proofs.RunModels.{has_models_of_runs}
use Rattle.lola_model.proofs.law.one_model_of_accepted.Goals as goal

pub returns : goal.returns
returns c = record {
  orderly = record { numbers = c.requires.named.numbers; acyclic = c.requires.acyclic };
  one = has_one_model c.args._plan.now c.requires.acyclic;
  runs = has_models_of_runs c.args._plan.now c.requires.acyclic c.requires.rates;
}
