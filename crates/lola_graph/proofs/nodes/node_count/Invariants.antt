use Rattle.std.proofs.Common.{◌≡◌, max, drop}
use Rattle.lola_model.specs.Nodes.{node_count as node_count_of}
use Rattle.lola_graph.proofs.nodes.node_count.Given as goal

abbrev pub invariant-loop-edge : goal.invariant-loop-edge
invariant-loop-edge l = max l.count (node_count_of (drop l.edge-index l.edges)) ≡ node_count_of l.edges
