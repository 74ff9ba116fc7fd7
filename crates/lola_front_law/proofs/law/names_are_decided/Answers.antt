use Rattle.lola_front_law.proofs.Deciding.{decided}
use Rattle.lola_front_law.proofs.law.names_are_decided.Goals as goal

pub returns : goal.returns
returns c bytes = decided bytes
