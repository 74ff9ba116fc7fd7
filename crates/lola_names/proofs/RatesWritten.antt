-- Each quantity is noted as a rate.
use Rattle.std.proofs.Common.{ℕ, zero, suc, ◌+◌, ◌*◌, ◌/◌, ◌%◌, ◌<◌, ◌≤◌, ◌⊎◌, refl, subst, inl, inr, arith}
use Rattle.std.specs.Int.{IsGcd}
use Rattle.std.proofs.lemmas.Bool.{cases_lt}
use Rattle.std.proofs.lemmas.Nat.Gcd.{IsGcd-from_zero, IsGcd-from_mod}
use Rattle.lola_value.specs.Ratio.{Ratio}
use Rattle.lola_value.specs.Rate.{period_over}
use Rattle.lola_value.specs.Times.{latest}
use Rattle.lola_value.proofs.Rates.{parts}
use Rattle.lola_model.specs.declared.spec.WrittenRate.{WrittenRate}
use Rattle.lola_model.specs.declared.spec.WrittenRate.TheVariants as rate
use Rattle.lola_names_refused.specs.Quantities.{IsInRange, IsNotedAs, IsWrittenAs}
use Rattle.lola_names_refused.proofs.Rating.{only_reduced}

-- ---- divisors

-- two numbers that are not both 0 have a greatest common divisor
pub record HasDivisor (a b : ℕ) : Type 0 where
  pub divisor : ℕ
  pub is : IsGcd a b divisor
  pub positive : 0 < divisor

-- .. by as many divisions as the second says
pub divisor_by : (n a b : ℕ) → b ≤ n → 0 < a + b → HasDivisor a b
divisor_by n a zero small some = record { divisor = a; is = IsGcd-from_zero a 0 refl; positive = omega (arith, some) }
divisor_by zero a (suc b) small some = absurd (omega (arith, small))
divisor_by (suc n) a (suc b) small some =
    let low : a % suc b < suc b = omega arith in
    let h = divisor_by n (suc b) (a % suc b) (omega (arith, low, small)) (omega arith) in
    record { divisor = h.divisor; is = IsGcd-from_mod a (suc b) h.divisor h.is; positive = h.positive }

-- ---- rates

-- a rate is in range or not
in_range : (r : Ratio) → IsInRange r ⊎ (IsInRange r → ⊥)
in_range r = elim (cases_lt 1000000000000000000 r.num) [
  | inl high ↦ inr (λ h. omega (arith, h.num, high))
  | inr num ↦
      elim (cases_lt 4000000000000000000 r.den) [
        | inl high ↦ inr (λ h. omega (arith, h.den, high))
        | inr den ↦
            elim (cases_lt (latest * r.num) (period_over r)) [
              | inl high ↦ inr (λ h. omega (arith, h.period, high))
              | inr period ↦ inl (record { num = num; den = den; period = period })
            ]
      ]
]

-- it is noted as itself, as too fast, or as out of range
noted_as : (r : Ratio) → (w : WrittenRate) × IsNotedAs r w
noted_as r = elim (in_range r) [
  | inr not_in ↦ (rate.OutOfRange, not_in)
  | inl range ↦
      elim (cases_lt (1000000 * r.den) r.num) [
        | inl fast ↦ (rate.TooFast, (range, fast))
        | inr slow ↦ (rate.Of r, (refl, range, slow))
      ]
]

-- a fraction is noted
pub written_as : (num den : ℕ) → (w : WrittenRate) × IsWrittenAs num den w
written_as zero den = (rate.OutOfRange, record { zero_num = λ e. refl; zero_den = λ e. refl; noted = λ r some is. absurd (omega (arith, some)) })
written_as (suc num) zero = (rate.OutOfRange, record { zero_num = λ e. refl; zero_den = λ e. refl; noted = λ r some is. absurd (omega (arith, is.divisor)) })
written_as (suc num) (suc den) =
    let h = divisor_by (suc den) (suc num) (suc den) (omega arith) (omega arith) in
    let lowest : Ratio = record { num = suc num / h.divisor; den = suc den / h.divisor } in
    let w = noted_as lowest in
    let both = parts (suc num) (suc den) h.divisor (λ e. omega (arith, e)) (λ e. omega (arith, e)) h.positive h.is in (
      w.0,
      record {
        zero_num = λ e. absurd (omega (arith, e));
        zero_den = λ e. absurd (omega (arith, e));
        noted = λ r some is. subst (λ (q : Ratio). IsNotedAs q w.0) (only_reduced (suc num) (suc den) h.divisor r both is) w.1;
      },
    )
