use Rattle.std.proofs.Common.{◌^◌, ◌<◌, arith}
use Rattle.std.specs.Int.{IsGcd}
use Rattle.lola_value.proofs.Divisors.{divisor_below, same_divisor}
use Rattle.lola_value.proofs.rate.gcd.Goals as goal

pub overflow_cast-result : goal.overflow_cast-result
overflow_cast-result c =
    let is : IsGcd c.args.a c.args.b c.wide_gcd.result = same_divisor c.from.result c.from-2.result c.wide_gcd.result c.args.a c.args.b c.from.ensures c.from-2.ensures c.wide_gcd.ensures.divisor in
    let below : c.wide_gcd.result < 2 ^ 64 = divisor_below c.args.a c.args.b c.wide_gcd.result c.requires (omega (arith, c.ranges.a.fits)) (omega (arith, c.ranges.b.fits)) is in
    omega (arith, below)

pub returns-clause-divisor : goal.returns-clause-divisor
returns-clause-divisor c = same_divisor c.from.result c.from-2.result c.wide_gcd.result c.args.a c.args.b c.from.ensures c.from-2.ensures c.wide_gcd.ensures.divisor
