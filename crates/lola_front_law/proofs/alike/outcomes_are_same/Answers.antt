use Rattle.lola_front_law.proofs.BothWays.{same_outcomes}
use Rattle.lola_front_law.proofs.alike.outcomes_are_same.Goals as goal

pub returns : goal.returns
returns c s t specs = same_outcomes s t specs
