use Rattle.std.proofs.Common.{arith}
use Rattle.std.specs.List.{Contains}
use Rattle.lola_graph.proofs.FlagLemmas.{flagged_low, search_begun, search_more, search_ended, nothing_left}
use Rattle.std.proofs.lemmas.List.Elements.{Contains-push}
use Rattle.lola_graph.proofs.search.reach.Goals as goal

pub loop-node-init : goal.loop-node-init
loop-node-init c =
    search_begun c.args.lists.now c.args.start c.args.flags.now c.flag_reads.new.flags c.flag_reads.new.noted.items c.requires.blank (rw c.requires.noted at c.in_ok-flag_reads.ensures)

pub flag_reads-requires-in-Some-clause-node : goal.flag_reads-requires-in-Some-clause-node
flag_reads-requires-in-Some-clause-node c =
    let listed : Contains c.loop-node.noted.items c.in-Some.node = rw c.in-Some.ensures.items (Contains-push c.pop.new.self.items c.in-Some.node) in
    let low = flagged_low c.loop-node.flags c.in-Some.node (c.loop-node.invariant.listed c.in-Some.node listed) in
    omega (arith, low, c.requires.flags, c.loop-node.auto.flags)

pub loop-node-preserved : goal.loop-node-preserved
loop-node-preserved c =
    search_more c.args.lists.now c.args.start c.loop-node.flags c.flag_reads-in-Some.new.flags c.pop.new.self.items c.flag_reads-in-Some.new.noted.items c.in-Some.node
    (rw c.in-Some.ensures.items at c.loop-node.invariant) c.in_ok-flag_reads-2.ensures

pub returns : goal.returns
returns c =
    let none = c.in_default.ensures in
    let left = nothing_left c.loop-node.noted.items c.pop.new.self.items _ none.variant.1 none.items none.rest in
    search_ended c.args.lists.now c.args.start c.loop-node.flags (rw left at c.loop-node.invariant)
