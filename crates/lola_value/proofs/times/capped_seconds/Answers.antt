use Rattle.std.proofs.Common.{arith, rules}
use Rattle.lola_value.proofs.Reading.{capped_more}
use Rattle.lola_value.proofs.times.capped_seconds.Goals as goal

pub loop-digit-preserved : goal.loop-digit-preserved
loop-digit-preserved c = record {
  within = omega arith;
  value = capped_more c.args.digits.now c.loop-digit.digit-index c.loop-digit.seconds c.min-seconds.result 4000000001 _ (search rules) (search rules) c.loop-digit.invariant.value;
}
