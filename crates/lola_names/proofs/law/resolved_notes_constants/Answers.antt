use Rattle.lola_names.proofs.Laws.{resolved_notes}
use Rattle.lola_names.proofs.law.resolved_notes_constants.Goals as goal

pub returns : goal.returns
returns c ds spec closes none r = resolved_notes ds spec closes none r
