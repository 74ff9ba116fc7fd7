use Rattle.lola_graph.proofs.FlagLemmas.{flags_one}
use Rattle.lola_graph.proofs.search.flag_one.Goals as goal

pub returns : goal.returns
returns c = rw c.in_ok-push.ensures.items (flags_one c.args.flags.now c.args.node c.args.noted.now.items c.requires c.if-flags-node.false)
