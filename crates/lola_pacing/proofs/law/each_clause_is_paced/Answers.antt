-- The law.
use Rattle.lola_pacing.proofs.PacedLemmas.{paces_all}
use Rattle.lola_pacing.proofs.law.each_clause_is_paced.Goals as goal

pub returns : goal.returns
returns c = paces_all
