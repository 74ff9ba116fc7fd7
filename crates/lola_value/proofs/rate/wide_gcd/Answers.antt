use Rattle.std.proofs.Common.{arith}
use Rattle.std.proofs.lemmas.Nat.Gcd.{IsGcd-from_zero, IsGcd-from_mod}
use Rattle.lola_value.proofs.rate.wide_gcd.Goals as goal

pub loop-rest-preserved : goal.loop-rest-preserved
loop-rest-preserved c = record {
  same = λ g h. c.loop-rest.invariant.same g (IsGcd-from_mod _ _ g h);
  positive = omega arith;
}

pub returns-clause-divisor : goal.returns-clause-divisor
returns-clause-divisor c = c.loop-rest.invariant.same _ (IsGcd-from_zero _ _ (omega arith))
