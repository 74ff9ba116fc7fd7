use Rattle.std.proofs.Common.{◌≡◌, true, false}
use Rattle.lola_graph.proofs.ListLemmas.{reads_more, reads_same}
use Rattle.lola_graph.proofs.lists.put_edge.Goals as goal

pub returns-then-is_within_step : goal.returns-then-is_within_step
returns-then-is_within_step c edges h = rw c.in_ok-put.ensures (reads_more edges c.args.lists.now c.args.edge.now h (c.is_within_step.ensures.0 c.if-is_within_step.true) c.requires)

pub returns : goal.returns
returns c edges h = reads_same edges c.args.lists.now c.args.edge.now h (λ e. (let yes = c.is_within_step.ensures.1 e in let no = c.if-is_within_step.false in let q : true ≡ false = cc in absurd (cc)))
