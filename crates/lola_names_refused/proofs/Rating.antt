-- Rates in lowest terms.
use Rattle.std.proofs.Common.{◌≡◌, ℕ, ◌*◌, ◌/◌, ◌<◌, ◌≤◌, ◌^◌, refl, ap, arith}
use Rattle.std.proofs.Math.Nat.{pow-le-pow_right, one-le-pow, div-mul_cancel}
use Rattle.lola_value.specs.Ratio.{Ratio}
use Rattle.lola_value.specs.Rate.{IsLowest, IsRateOf}
use Rattle.lola_value.proofs.Divisors.{cancel_right, lowest_by_gcd, lowest_is_one, same_ratio, part_positive}
use Rattle.lola_value.proofs.Rates.{AreParts, by_divisor}
use Rattle.lola_names_refused.specs.Quantities.{IsReduced, IsInRange}

pub ten_powers : (d : ℕ) → d ≤ 18 → 10 ^ d ≤ 1000000000000000000
ten_powers d small = pow-le-pow_right {n = 10} (omega arith) small

pub ten_positive : (d : ℕ) → 1 ≤ 10 ^ d
ten_positive d = one-le-pow d 10 (omega arith)

-- a rate in lowest terms within all limits is that of its own parts
pub own_rate : (num den : ℕ) → 0 < num → 0 < den → IsLowest (record { num = num; den = den }) → IsInRange (record { num = num; den = den }) → num ≤ 1000000 * den
    → IsRateOf num den (record { num = num; den = den })
own_rate num den hn hd lowest range slow = record {
  divisor = hd;
  same = refl;
  rate = record { num = hn; den = hd; lowest = lowest; limits = record { num = range.num; den = range.den; frequency = slow; period = range.period } };
}

-- lowest terms are the only ones
pub only_reduced : (num den g : ℕ) (r : Ratio) → AreParts num den g → IsReduced num den r → by_divisor num den g ≡ r
only_reduced num den g r p is =
    let n : num / g * g ≡ num = div-mul_cancel g p.gcd.0 in
    let d : den / g * g ≡ den = div-mul_cancel g p.gcd.1 in
    let left : r.num * (den / g * g) ≡ r.num * den = ap (λ x. r.num * x) d in
    let right : num / g * g * r.den ≡ num * r.den = ap (λ x. x * r.den) n in
    let was : r.num * den ≡ num * r.den = is.same in
    let cross : num / g * r.den * g ≡ r.num * (den / g) * g = omega (arith, left, right, was) in
    same_ratio (by_divisor num den g) r
    (lowest_is_one (by_divisor num den g) r (part_positive den g p.den_positive p.gcd.1) is.positive
    (lowest_by_gcd num den g p.positive p.num_positive p.gcd) is.lowest
    (cancel_right _ _ g p.positive cross))
