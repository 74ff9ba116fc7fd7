use Rattle.std.proofs.Common.{◌<◌, ℕ}
use Rattle.lola_graph.specs.Paths.{Reaches}
use Rattle.lola_graph.proofs.cycle.least_node.Given as goal

abbrev pub invariant-loop-node : goal.invariant-loop-node
invariant-loop-node l = (m : ℕ) → m < l.node → ¬ (Reaches l.lists m m)
