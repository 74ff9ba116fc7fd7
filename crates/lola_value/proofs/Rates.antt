-- Rates: that they are made of their fraction in lowest terms, and which deadlines are times.
use Rattle.std.proofs.Common.{◌≡◌, ℕ, suc, ◌+◌, ◌-◌, ◌*◌, ◌/◌, ◌^◌, ◌<◌, ◌≤◌, Option, Some, None, refl, ap, ◌∙◌, arith, nat_le, if◌then◌else◌, option_map, true, false}
use Rattle.std.specs.Int.{IsGcd, div_ceil}
use Rattle.std.proofs.lemmas.Grind.{common_steps, div_ceil_times}
use Rattle.std.proofs.lemmas.Nat.{le-div}
use Rattle.std.proofs.Math.Nat.{div-mul_cancel, le-div_iff_mul-le, div-lt_iff_lt-mul}
use Rattle.lola_value.specs.Ratio.{Ratio}
use Rattle.lola_value.specs.Rate.{IsRate, IsRateOf, IsWithinLimits, deadline, next_number, next_in_time, period_over}
use Rattle.lola_value.specs.Times.{latest, up_to_latest}
use Rattle.lola_value.proofs.Divisors.{cancel_right, lowest_by_gcd, part_positive, lowest_is_one, same_ratio}

-- the fraction of two numbers by their greatest common divisor
abbrev pub by_divisor : ℕ → ℕ → ℕ → Ratio
by_divisor num den g = record { num = num / g; den = den / g }

-- two numbers that are not 0, and their greatest common divisor
pub record AreParts (num den g : ℕ) : Type 0 where
  pub num_positive : 0 < num
  pub den_positive : 0 < den
  pub positive : 0 < g
  pub gcd : IsGcd num den g

-- the parts that a rate is made of
pub parts : (num den g : ℕ) → (num ≡ 0 → ⊥) → (den ≡ 0 → ⊥) → 0 < g → IsGcd num den g → AreParts num den g
parts num den g a b h gcd = record { num_positive = omega (arith, a); den_positive = omega (arith, b); positive = h; gcd = gcd }

-- within the limits it is a rate
pub is_rate : (num den g : ℕ) → AreParts num den g → IsWithinLimits (by_divisor num den g) → IsRate (by_divisor num den g)
is_rate num den g p limits = record {
  num = part_positive num g p.num_positive p.gcd.0;
  den = part_positive den g p.den_positive p.gcd.1;
  lowest = lowest_by_gcd num den g p.positive p.num_positive p.gcd;
  limits = limits;
}

-- the same number
same_number : (n d g num den : ℕ) → n * g ≡ num → d * g ≡ den → n * den ≡ num * d
same_number n d g num den a b =
    let left : n * (d * g) ≡ n * den = ap (λ x. n * x) b in
    let right : n * g * d ≡ num * d = ap (λ x. x * d) a in
    omega (arith, left, right)

-- and the rate of the two numbers
pub is_rate_of : (num den g : ℕ) → AreParts num den g → IsWithinLimits (by_divisor num den g) → IsRateOf num den (by_divisor num den g)
is_rate_of num den g p limits = record {
  divisor = p.den_positive;
  same = same_number (num / g) (den / g) g num den (div-mul_cancel g p.gcd.0) (div-mul_cancel g p.gcd.1);
  rate = is_rate num den g p limits;
}

-- and the only one
pub is_only_rate : (num den g : ℕ) (r : Ratio) → AreParts num den g → IsRateOf num den r → by_divisor num den g ≡ r
is_only_rate num den g r p is =
    let n : num / g * g ≡ num = div-mul_cancel g p.gcd.0 in
    let d : den / g * g ≡ den = div-mul_cancel g p.gcd.1 in
    let left : r.num * (den / g * g) ≡ r.num * den = ap (λ x. r.num * x) d in
    let right : num / g * g * r.den ≡ num * r.den = ap (λ x. x * r.den) n in
    let was : r.num * den ≡ num * r.den = is.same in
    let cross : num / g * r.den * g ≡ r.num * (den / g) * g = omega (arith, left, right, was) in
    same_ratio (by_divisor num den g) r
    (lowest_is_one (by_divisor num den g) r (part_positive den g p.den_positive p.gcd.1) is.rate.den
    (lowest_by_gcd num den g p.positive p.num_positive p.gcd) is.rate.lowest
    (cancel_right _ _ g p.positive cross))

-- periods that pass 128 bits are later than all times
pub too_far : (x num : ℕ) → 0 < num → num ≤ 1000000000000000000 → 2 ^ 128 ≤ x → up_to_latest (x / num) ≡ None
too_far x num positive small far =
    let past : latest + 1 ≤ x / num = le-div (latest + 1) x num positive (omega arith) in
    grind (arith, common_steps)

-- a quotient rounded up
ceil_is : (a d n : ℕ) → 0 < d → a ≤ n * d → n * d < a + d → n ≡ (a + d - 1) / d
ceil_is a d n h enough least =
    let low : n ≤ (a + d - 1) / d = (le-div_iff_mul-le h).1 (omega arith) in
    let above : a + d - 1 < suc n * d = omega arith in
    let high : (a + d - 1) / d < suc n = (div-lt_iff_lt-mul h).1 above in
    omega arith

-- the number of the next deadline, by a quotient rounded up
pub next_number_is : (r : Ratio) (t : ℕ) → IsRate r → div_ceil ((t + 1) * r.num) (period_over r) ≡ next_number r t
next_number_is r t is =
    let positive : 0 < period_over r = let d : 0 < r.den = is.den in omega arith in
    let bounds = div_ceil_times ((t + 1) * r.num) (period_over r) positive in
    ceil_is ((t + 1) * r.num) (period_over r) (div_ceil ((t + 1) * r.num) (period_over r)) positive bounds.0 bounds.1

-- a deadline with its number
abbrev pub numbered : ℕ → ℕ → ℕ × ℕ
numbered n time = (n, time)

-- the next deadline is a time, or none
in_time : (o : Option ℕ) (n d : ℕ) → o ≡ up_to_latest d → option_map (λ time. numbered n time) o ≡ (if nat_le d latest then Some (n, d) else None)
in_time o n d is = ap (λ o. option_map (λ time. numbered n time) o) is ∙ elim (nat_le d latest) as (λ b. option_map (λ time. numbered n time) (if b then Some d else None) ≡ (if b then Some (n, d) else None)) [ true ↦ refl | false ↦ refl ]

-- the answer for the next deadline, by its number
pub next_in_time_is : (r : Ratio) (t n : ℕ) (o : Option ℕ) → n ≡ next_number r t → o ≡ up_to_latest (deadline r n) → option_map (λ time. numbered n time) o ≡ next_in_time r t
next_in_time_is r t n o number is = in_time o n (deadline r n) is ∙ ap (λ k. if nat_le (deadline r k) latest then Some (k, deadline r k) else None) number
