-- The law.
use Rattle.lola_pacing.proofs.LawLemmas.{means_conjunction}
use Rattle.lola_pacing.proofs.implication_law.joined_is_conjunction.Goals as goal

pub returns : goal.returns
returns c = means_conjunction
