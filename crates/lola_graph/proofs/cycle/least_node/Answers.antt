use Rattle.std.proofs.Common.{◌≡◌, true, false, arith, inl, inr}
use Rattle.std.proofs.lemmas.Bool.{cases_eq}
use Rattle.lola_graph.proofs.CycleLemmas.{none_reaches}
use Rattle.lola_graph.proofs.cycle.least_node.Goals as goal

pub loop-node-preserved : goal.loop-node-preserved
loop-node-preserved c m lt r =
    elim (cases_eq m c.loop-node.node) [
      | inl e ↦ (let yes = c.in_ok-reads_itself.ensures.1 (rw e at r) in let no = c.if-branch.false in let q : true ≡ false = cc in absurd (cc))
      | inr ne ↦ c.loop-node.invariant m (omega (arith, ne, lt)) r
    ]

pub returns : goal.returns
returns c = none_reaches c.args.lists.now (λ m lt. c.loop-node.invariant m (omega arith))
