use Rattle.std.proofs.Common.{◌+◌, length}
use Rattle.lola_graph.specs.Flags.{Searched, unflagged}
use Rattle.lola_graph.proofs.search.reach.Given as goal

abbrev pub invariant-loop-node : goal.invariant-loop-node
invariant-loop-node l = Searched l.lists l.start l.flags l.noted.items

abbrev pub decreases-loop-node : goal.decreases-loop-node
decreases-loop-node l = unflagged l.flags + length l.noted.items
