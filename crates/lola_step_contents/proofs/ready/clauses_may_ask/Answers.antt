-- The law.
use Rattle.lola_step_contents.proofs.Clauses.{clauses_may_ask}
use Rattle.lola_step_contents.proofs.ready.clauses_may_ask.Goals as goal

pub returns : goal.returns
returns c = clauses_may_ask
