use Rattle.std.proofs.Common.{◌<◌, arith, length}
use Rattle.std.specs.List.{slice_index_or}
use Rattle.std.proofs.lemmas.Grind.{get_or_default_zero}
use Rattle.lola_graph.proofs.FlagLemmas.{item_in, flags_more}
use Rattle.lola_graph.proofs.search.flag.Goals as goal

pub flag_one-requires : goal.flag_one-requires
flag_one-requires c =
    let within : c.loop-node.node-index < length c.args.nodes.now = omega arith in
    let low = c.requires (slice_index_or c.args.nodes.now c.loop-node.node-index 0) (item_in c.args.nodes.now c.loop-node.node-index within) in
    omega (arith, low, c.loop-node.auto.flags)

pub loop-node-preserved : goal.loop-node-preserved
loop-node-preserved c =
    let nodes = c.args.nodes.now in
    let i = c.loop-node.node-index in
    let within : i < length nodes = omega arith in
    flags_more nodes i (slice_index_or nodes i 0) c.args.flags.now c.loop-node.flags c.flag_one.new.flags c.args.noted.now.items c.loop-node.noted.items c.flag_one.new.noted.items within
    (get_or_default_zero nodes i (slice_index_or nodes i 0) within) c.loop-node.invariant c.in_ok-flag_one.ensures
