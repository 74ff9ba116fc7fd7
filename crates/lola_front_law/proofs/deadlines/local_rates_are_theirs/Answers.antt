use Rattle.lola_front_law.proofs.LayoutRates.{layout_rates}
use Rattle.lola_front_law.proofs.deadlines.local_rates_are_theirs.Goals as goal

pub returns : goal.returns
returns c = layout_rates c.args._plan.now c.requires.paced c.requires.rates
