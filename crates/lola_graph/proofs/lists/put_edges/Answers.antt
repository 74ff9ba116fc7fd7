use Rattle.std.proofs.Common.{◌<◌, pos, arith, length}
use Rattle.lola_graph.proofs.NodeLemmas.{node_low, edge_in}
use Rattle.lola_graph.proofs.lists.put_edges.Goals as goal

pub put_edge-requires : goal.put_edge-requires
put_edge-requires c =
    let within : c.loop-edge.edge-index < length c.args.edges.now = omega arith in
    let low = node_low c.args.edges.now _ (edge_in c.args.edges.now c.loop-edge.edge-index (record { from = 0; to = 0; weight = pos 0 }) within) in
    omega (arith, low.0, c.requires.low, c.loop-edge.auto.lists)
