use Rattle.std.proofs.Common.{arith, ◌∙◌}
use Rattle.std.proofs.Math.Nat.{min-eq_right}
use Rattle.lola_instances_one.specs.Queues.{births_of}
use Rattle.lola_instances_one.proofs.Queues.{least_within, walk_ends}
use Rattle.lola_instances_one.proofs.queue.least_from.Goals as goal

pub loop-i-init : goal.loop-i-init
loop-i-init c = record {
  within = omega arith;
  least = min-eq_right (least_within c.args.rates.now c.args.passed c.args.from (births_of c.args.queue.now.items));
}

pub returns-then-from-entry : goal.returns-then-from-entry
returns-then-from-entry c =
    c.min.ensures
    ∙ walk_ends c.args.rates.now c.args.passed c.args.from c.args.queue.now.items c.loop-i.i c.loop-i.least c.index-entry.result.now c.requires (omega arith) c.index-entry.ensures
    c.if-passed-from.true c.if-from-entry.true c.loop-i.invariant.least
