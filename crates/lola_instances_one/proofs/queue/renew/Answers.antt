use Rattle.std.proofs.Common.{arith}
use Rattle.std.proofs.lemmas.List.Sorted.{IsPermutation-trans}
use Rattle.lola_instances_one.proofs.queue.renew.Goals as goal

pub returns-then-not-renew_first-clause-births : goal.returns-then-not-renew_first-clause-births
returns-then-not-renew_first-clause-births c = IsPermutation-trans _ _ _ c.loop-turn.invariant.births c.renew_first.ensures.births

pub loop-turn-preserved : goal.loop-turn-preserved
loop-turn-preserved c = record {
  queue = c.renew_first.ensures.queue;
  births = IsPermutation-trans _ _ _ c.loop-turn.invariant.births c.renew_first.ensures.births;
  capacity = let h = c.loop-turn.invariant.capacity in let k = c.renew_first.ensures.capacity in omega arith;
}
