use Rattle.lola_front_law.proofs.BothWays.{same_entries}
use Rattle.lola_front_law.proofs.alike.entries_are_same.Goals as goal

pub returns : goal.returns
returns c p q alike = same_entries p q alike
