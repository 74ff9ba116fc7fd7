use Rattle.lola_graph.proofs.ReadLemmas.{spec_readable, spec_windows, graph_small}
use Rattle.lola_graph.proofs.reads.edges.Goals as goal

pub put_streams-requires-clause-windows : goal.put_streams-requires-clause-windows
put_streams-requires-clause-windows c = rw c.as_slice.ensures (spec_windows c.args.spec.now c.requires.numbers c.requires.streams)

pub put_streams-requires-clause-streams : goal.put_streams-requires-clause-streams
put_streams-requires-clause-streams c = rw c.as_slice-2.ensures (spec_readable c.args.spec.now c.requires.numbers c.requires.streams c.requires.offsets)

pub returns-clause-small : goal.returns-clause-small
returns-clause-small c =
    rw (c.in_ok-put_streams.ensures, c.create-edges.ensures, c.as_slice.ensures, c.as_slice-2.ensures) (graph_small c.args.spec.now c.requires.numbers c.requires.streams c.requires.offsets)
