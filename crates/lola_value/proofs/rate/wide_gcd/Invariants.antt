use Rattle.std.proofs.Common.{ℕ, ◌+◌, ◌<◌}
use Rattle.std.specs.Int.{IsGcd}
use Rattle.lola_value.proofs.rate.wide_gcd.Given as goal

abbrev pub invariant-loop-rest : goal.invariant-loop-rest
invariant-loop-rest l = record {
  same : (g : ℕ) → IsGcd l.divisor l.rest g → IsGcd l.fn.a l.fn.b g;
  positive : 0 < l.divisor + l.rest;
}

abbrev pub decreases-loop-rest : goal.decreases-loop-rest
decreases-loop-rest l = l.rest
