use Rattle.std.proofs.Common.{subst, arith}
use Rattle.lola_value.specs.Ratio.{Ratio}
use Rattle.lola_value.proofs.Rates.{parts}
use Rattle.lola_value.proofs.Divisors.{part_positive, lowest_by_gcd}
use Rattle.lola_names_refused.specs.Quantities.{IsNotedAs}
use Rattle.lola_names_refused.proofs.Rating.{only_reduced}
use Rattle.lola_names_refused.proofs.quantities.written.Goals as goal

pub returns : goal.returns
returns c =
    let g = c.wide_gcd-common in
    let both = parts c.args.num c.args.den g.result c.if-num-eq0.false c.if-den-eq0.false g.ensures.positive g.ensures.divisor in
    record {
      zero_num = λ e. absurd (c.if-num-eq0.false e);
      zero_den = λ e. absurd (c.if-den-eq0.false e);
      noted = λ r positive is. subst (λ (q : Ratio). IsNotedAs q c.noted.result) (only_reduced c.args.num c.args.den g.result r both is) c.noted.ensures;
    }

pub noted-requires-clause-num : goal.noted-requires-clause-num
noted-requires-clause-num c = part_positive c.args.num c.wide_gcd-common.result (omega (arith, c.if-num-eq0.false)) c.wide_gcd-common.ensures.divisor.0

pub noted-requires-clause-den : goal.noted-requires-clause-den
noted-requires-clause-den c = part_positive c.args.den c.wide_gcd-common.result (omega (arith, c.if-den-eq0.false)) c.wide_gcd-common.ensures.divisor.1

pub noted-requires-clause-lowest : goal.noted-requires-clause-lowest
noted-requires-clause-lowest c =
    lowest_by_gcd c.args.num c.args.den c.wide_gcd-common.result c.wide_gcd-common.ensures.positive (omega (arith, c.if-num-eq0.false)) c.wide_gcd-common.ensures.divisor
