use Rattle.lola_front_law.proofs.BothWays.{same_verdicts}
use Rattle.lola_front_law.proofs.alike.verdicts_are_same.Goals as goal

pub returns : goal.returns
returns c p q alike = same_verdicts p q alike
