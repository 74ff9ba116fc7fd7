use Rattle.std.proofs.Common.{take}
use Rattle.lola_graph.specs.Flags.{Flags}
use Rattle.lola_graph.proofs.search.flag.Given as goal

abbrev pub invariant-loop-node : goal.invariant-loop-node
invariant-loop-node l = Flags (take l.node-index l.nodes) l.initial.flags l.initial.noted.items l.flags l.noted.items
