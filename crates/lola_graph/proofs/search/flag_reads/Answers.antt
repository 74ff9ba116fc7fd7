use Rattle.std.proofs.Common.{arith}
use Rattle.lola_graph.proofs.FlagLemmas.{read_at}
use Rattle.lola_graph.proofs.search.flag_reads.Goals as goal

pub flag-requires : goal.flag-requires
flag-requires c n h =
    let at = read_at c.args.lists.now c.args.node c.index-lists-node.result c.requires.node c.index-lists-node.is in
    let low = c.requires.within c.args.node n (rw (at, ← c.as_slice.ensures) h) in
    omega (arith, low, c.requires.flags)

pub returns : goal.returns
returns c =
    let at = read_at c.args.lists.now c.args.node c.index-lists-node.result c.requires.node c.index-lists-node.is in
    rw (at, ← c.as_slice.ensures) c.flag.ensures
