-- The law.
use Rattle.lola_pacing.proofs.FineLemmas.{accepts_fine}
use Rattle.lola_pacing.proofs.implication_law.unrefused_is_fine.Goals as goal

pub returns : goal.returns
returns c = accepts_fine
