use Rattle.std.proofs.Common.{◌≡◌, sym, ap, subst, true, Some}
use Rattle.lola_value.specs.Ratio.{Ratio}
use Rattle.lola_value.specs.Rate.{IsWithinLimits}
use Rattle.lola_value.proofs.Rates.{parts, by_divisor, is_rate, is_rate_of, is_only_rate}
use Rattle.lola_value.proofs.rate.Rate.create.Goals as goal

pub returns-then-not-is_within_limits-clause-only :
    goal.returns-then-not-is_within_limits-clause-only
returns-then-not-is_within_limits-clause-only c rate is =
    let g = c.gcd-common in
    let both = parts c.args.num c.args.den g.result c.if-num-eq0.false c.if-den-eq0.false g.ensures.positive g.ensures.divisor in
    let same = is_only_rate c.args.num c.args.den g.result rate both is in
    let within : IsWithinLimits (by_divisor c.args.num c.args.den g.result) = subst (λ (r : Ratio). IsWithinLimits r) (sym same) is.rate.limits in
    let yes : c.is_within_limits.result ≡ true = c.is_within_limits.ensures.1 within in
    cc

pub invariant_of-result : goal.invariant_of-result
invariant_of-result c =
    let g = c.gcd-common in
    let both = parts c.args.num c.args.den g.result c.if-num-eq0.false c.if-den-eq0.false g.ensures.positive g.ensures.divisor in
    is_rate c.args.num c.args.den g.result both (c.is_within_limits.ensures.0 c.if-not-is_within_limits.false)

pub returns-clause-rate : goal.returns-clause-rate
returns-clause-rate c =
    let g = c.gcd-common in
    let both = parts c.args.num c.args.den g.result c.if-num-eq0.false c.if-den-eq0.false g.ensures.positive g.ensures.divisor in
    is_rate_of c.args.num c.args.den g.result both (c.is_within_limits.ensures.0 c.if-not-is_within_limits.false)

pub returns-clause-only : goal.returns-clause-only
returns-clause-only c rate is =
    let g = c.gcd-common in
    let both = parts c.args.num c.args.den g.result c.if-num-eq0.false c.if-den-eq0.false g.ensures.positive g.ensures.divisor in
    ap Some (is_only_rate c.args.num c.args.den g.result rate both is)
