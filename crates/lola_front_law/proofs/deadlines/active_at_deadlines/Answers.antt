use Rattle.lola_front_law.proofs.RateFormula.{are_deadlines}
use Rattle.lola_front_law.proofs.deadlines.active_at_deadlines.Goals as goal

pub returns : goal.returns
returns c = are_deadlines
