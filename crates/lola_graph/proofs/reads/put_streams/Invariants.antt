use Rattle.std.proofs.Common.{◌≡◌, ◌++◌, drop}
use Rattle.lola_model.specs.Graph.{edges_from}
use Rattle.lola_graph.proofs.reads.put_streams.Given as goal

abbrev pub invariant-loop-stream : goal.invariant-loop-stream
invariant-loop-stream l = record {
  counted : l.number ≡ l.stream-index;
  put : l.initial.edges ++ edges_from l.windows 0 l.streams ≡ l.edges ++ edges_from l.windows l.number (drop l.stream-index l.streams);
}
