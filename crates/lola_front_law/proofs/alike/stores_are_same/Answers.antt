use Rattle.lola_front_law.proofs.BothWays.{same_stores}
use Rattle.lola_front_law.proofs.alike.stores_are_same.Goals as goal

pub returns : goal.returns
returns c p q alike = same_stores p q alike
