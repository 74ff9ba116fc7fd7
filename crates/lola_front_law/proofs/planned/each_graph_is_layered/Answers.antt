-- The law.
use Rattle.lola_front_law.proofs.Laws.{finds_layers}
use Rattle.lola_front_law.proofs.planned.each_graph_is_layered.Goals as goal

pub returns : goal.returns
returns c = finds_layers
