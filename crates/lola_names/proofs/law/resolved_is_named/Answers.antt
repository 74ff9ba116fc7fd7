use Rattle.lola_names.proofs.Laws.{resolved_named}
use Rattle.lola_names.proofs.law.resolved_is_named.Goals as goal

pub returns : goal.returns
returns c ds spec closes none r = resolved_named ds spec closes none r
