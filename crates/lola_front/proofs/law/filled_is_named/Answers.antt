use Rattle.lola_front.proofs.Laws.{filled_named}
use Rattle.lola_front.proofs.law.filled_is_named.Goals as goal

pub returns : goal.returns
returns c spec full n h = filled_named spec full h n
