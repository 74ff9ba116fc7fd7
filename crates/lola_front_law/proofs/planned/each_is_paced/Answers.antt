-- The law.
use Rattle.lola_front_law.proofs.PacingsFound.{finds_pacings}
use Rattle.lola_front_law.proofs.planned.each_is_paced.Goals as goal

pub returns : goal.returns
returns c = finds_pacings
