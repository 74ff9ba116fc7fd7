-- The law.
use Rattle.lola_pacing.proofs.LawLemmas.{told}
use Rattle.lola_pacing.proofs.implication_law.implication_is_decided.Goals as goal

pub returns : goal.returns
returns c = record { told = told }
