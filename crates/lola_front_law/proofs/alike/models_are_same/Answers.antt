use Rattle.lola_front_law.proofs.BothWays.{same_models}
use Rattle.lola_front_law.proofs.alike.models_are_same.Goals as goal

pub returns : goal.returns
returns c p q alike = same_models p q alike
