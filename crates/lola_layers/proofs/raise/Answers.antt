use Rattle.std.proofs.Common.{◌<◌, ◌∷◌, [], pos, arith, length, take}
use Rattle.std.specs.List.{slice_index_or}
use Rattle.std.proofs.lemmas.List.{take_more}
use Rattle.lola_model.specs.declared.graph.Edge.{Edge}
use Rattle.lola_graph.proofs.NodeLemmas.{node_low, edge_in}
use Rattle.lola_layers.proofs.LongestWalks.{reached_low}
use Rattle.lola_layers.proofs.RaiseLemmas.{raised_both}
use Rattle.lola_layers.proofs.raise.Goals as goal

pub raise_one-requires-clause-from : goal.raise_one-requires-clause-from
raise_one-requires-clause-from c =
    let within : c.loop-edge.edge-index < length c.args.edges.now = omega arith in
    let low = node_low c.args.edges.now _ (edge_in c.args.edges.now c.loop-edge.edge-index (record { from = 0; to = 0; weight = pos 0 }) within) in
    omega (arith, low.0, c.requires.count, c.loop-edge.auto.layers)

pub raise_one-requires-clause-to : goal.raise_one-requires-clause-to
raise_one-requires-clause-to c =
    let within : c.loop-edge.edge-index < length c.args.edges.now = omega arith in
    let low = node_low c.args.edges.now _ (edge_in c.args.edges.now c.loop-edge.edge-index (record { from = 0; to = 0; weight = pos 0 }) within) in
    omega (arith, low.1, c.requires.count, c.loop-edge.auto.layers)

pub raise_one-requires-clause-most : goal.raise_one-requires-clause-most
raise_one-requires-clause-most c = reached_low c.args.edges.now c.requires.acyclic c.requires.small _ _ (c.loop-edge.invariant.reached _)

pub loop-edge-preserved : goal.loop-edge-preserved
loop-edge-preserved c =
    let none : Edge = record { from = 0; to = 0; weight = pos 0 } in
    let edges = c.args.edges.now in
    let i = c.loop-edge.edge-index in
    let within : i < length edges = omega arith in
    let x : Edge = slice_index_or edges i none in
    record {
      raised = rw (take_more edges i none within, c.either-raised.ensures)
          (raised_both (take i edges) (x ∷ []) c.args.layers.now c.loop-edge.layers c.raise_one.new.layers c.loop-edge.raised c.raise_one.result c.loop-edge.invariant.raised c.raise_one.ensures.raised);
      reached = c.raise_one.ensures.reached edges (edge_in edges i none within) c.loop-edge.invariant.reached;
    }
