use Rattle.std.proofs.Common.{take}
use Rattle.lola_graph.specs.Paths.{AreReads}
use Rattle.lola_graph.proofs.lists.put_edges.Given as goal

abbrev pub invariant-loop-edge : goal.invariant-loop-edge
invariant-loop-edge l = AreReads (take l.edge-index l.edges) l.lists
