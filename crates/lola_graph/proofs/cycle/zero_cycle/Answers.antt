use Rattle.std.proofs.Common.{arith}
use Rattle.lola_graph.specs.Paths.{AreReads}
use Rattle.lola_graph.proofs.CycleLemmas.{least_stream, count_low}
use Rattle.lola_graph.proofs.ListLemmas.{reads_within}
use Rattle.lola_graph.proofs.cycle.zero_cycle.Goals as goal

pub search-requires-clause-count : goal.search-requires-clause-count
search-requires-clause-count c = rw (c.deref.ensures.value, c.in_ok-lists.ensures.count, c.as_slice.ensures) (omega (arith, count_low c.args.edges.now c.requires))

pub search-requires-clause-within : goal.search-requires-clause-within
search-requires-clause-within c =
    rw c.deref.ensures.value (reads_within c.as_slice.result.now c.in_ok-lists.lists.items c.in_ok-lists.ensures.reads (omega (arith, c.in_ok-lists.ensures.count)))

pub returns : goal.returns
returns c =
    let reads : AreReads c.args.edges.now c.in_ok-lists.lists.items = rw (← c.as_slice.ensures) c.in_ok-lists.ensures.reads in
    rw c.stream_of.ensures (least_stream c.args.edges.now c.in_ok-lists.lists.items reads c.requires c.in_ok-node.node (rw c.deref.ensures.value at c.in_ok-node.ensures))
