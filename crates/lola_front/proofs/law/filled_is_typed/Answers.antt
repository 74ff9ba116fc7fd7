use Rattle.lola_front.proofs.Laws.{filled_typed}
use Rattle.lola_front.proofs.law.filled_is_typed.Goals as goal

pub returns : goal.returns
returns c spec full n k r h = filled_typed spec full h n k r
