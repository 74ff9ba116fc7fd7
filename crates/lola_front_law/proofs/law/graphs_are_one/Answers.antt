use Rattle.lola_front_law.proofs.CycleDeciding.{has_one_graph}
use Rattle.lola_front_law.proofs.law.graphs_are_one.Goals as goal

pub returns : goal.returns
returns c bytes = has_one_graph bytes
