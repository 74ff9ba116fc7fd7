use Rattle.lola_front_law.proofs.NextLocal.{next_local}
use Rattle.lola_front_law.proofs.deadlines.next_is_first.Goals as goal

pub returns : goal.returns
returns c = next_local
