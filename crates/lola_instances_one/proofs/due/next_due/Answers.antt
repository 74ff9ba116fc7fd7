use Rattle.std.proofs.Common.{ℕ, ◌+◌, arith, drop, min, ap, ◌∙◌}
use Rattle.std.proofs.Math.Nat.{min-eq_right}
use Rattle.lola_instances_one.specs.Moments.{due_at}
use Rattle.lola_instances_one.proofs.Moments.{due_within, one_more, rates_more, all_done, all_rates}
use Rattle.lola_instances_one.proofs.due.next_due.Goals as goal

pub loop-rate-init : goal.loop-rate-init
loop-rate-init c = record {
  within = omega arith;
  least = min-eq_right (due_within c.args.rates.now c.args.born c.args.from);
  rates = λ h. h;
}

pub loop-rate-preserved : goal.loop-rate-preserved
loop-rate-preserved c = record {
  within = let h = c.loop-rate.invariant.within in omega arith;
  least = ap (λ (m : ℕ). min m (due_at (drop (c.loop-rate.rate-index + 1) c.args.rates.now) c.args.born c.args.from)) c.min-least.ensures
      ∙ one_more c.args.rates.now c.loop-rate.rate-index c.loop-rate.least c.due_of.result c.args.born c.args.from c.rate-item.result (omega arith) c.rate-item.is c.due_of.ensures.due c.loop-rate.invariant.least;
  rates = rates_more c.args.rates.now c.loop-rate.rate-index c.rate-item.result (omega arith) c.rate-item.is c.due_of.ensures.rate c.loop-rate.invariant.rates;
}

pub returns-clause-due : goal.returns-clause-due
returns-clause-due c = all_done c.args.rates.now c.loop-rate.rate-index c.loop-rate.least c.args.born c.args.from (omega arith) c.loop-rate.invariant.within c.loop-rate.invariant.least

pub returns-clause-rates : goal.returns-clause-rates
returns-clause-rates c = all_rates c.args.rates.now c.loop-rate.rate-index (omega arith) c.loop-rate.invariant.rates
