-- The law.
use Rattle.lola_front_law.proofs.Laws.{finds_bounds}
use Rattle.lola_front_law.proofs.planned.each_is_bounded.Goals as goal

pub returns : goal.returns
returns c = finds_bounds
