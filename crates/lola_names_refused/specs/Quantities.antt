-- Durations and rates as they are written: which are in range, and what they say.
use Rattle.std.specs.Prelude.{ℕ, ◌*◌, ◌/◌, ◌%◌, ◌^◌, ◌<◌, ◌≤◌, ◌≡◌, Bool, ◌&&◌, if◌then◌else◌, nat_eq, nat_le, nat_lt}
use Rattle.lola_value.specs.Ratio.{Ratio}
use Rattle.lola_value.specs.Rate.{IsLowest, period_over}
use Rattle.lola_value.specs.Times.{latest}
use Rattle.lola_parser_grammar.specs.declared.literals.Quantity.{Quantity}
use Rattle.lola_parser_grammar.specs.declared.literals.QuantityUnit.{QuantityUnit}
use Rattle.lola_parser_grammar.specs.declared.literals.QuantityUnit.TheVariants as unit
use Rattle.lola_model.specs.declared.spec.WrittenRate.{WrittenRate}
use Rattle.lola_model.specs.declared.spec.WrittenRate.TheVariants as rate

-- it has at most 18 digits
abbrev pub is_short : Quantity → Bool
is_short q = nat_le q.count 18 && (nat_le q.decimals 18 && nat_lt q.digits 1000000000000000000)

-- the nanoseconds of a unit of time, and 0 for a unit of frequency
abbrev pub unit_span : QuantityUnit → ℕ
unit_span unit.Nanoseconds = 1
unit_span unit.Microseconds = 1000
unit_span unit.Milliseconds = 1000000
unit_span unit.Seconds = 1000000000
unit_span unit.Minutes = 60000000000
unit_span unit.Hours = 3600000000000
unit_span unit.Days = 86400000000000
unit_span unit.Millihertz = 0
unit_span unit.Hertz = 0
unit_span unit.Kilohertz = 0
unit_span unit.Megahertz = 0

-- so many parts, of which `parts` make a nanosecond, where that is a whole number of nanoseconds and no greater than the greatest
-- time; else 0
abbrev pub whole_span : ℕ → ℕ → ℕ
whole_span n parts = if nat_eq (n % parts) 0 && nat_le (n / parts) latest then n / parts else 0

-- the nanoseconds of a duration, and 0 where it is out of range or a rate
abbrev pub span_of : Quantity → ℕ
span_of q = if is_short q then whole_span (q.digits * unit_span q.unit) (10 ^ q.decimals) else 0

-- what a quantity says in Hz, as a fraction that need not be in lowest terms; a duration is the period. A part is 0 where it is out of range
abbrev pub rate_parts : QuantityUnit → ℕ → ℕ → ℕ → Ratio
rate_parts unit.Millihertz digits scale span = record { num = digits; den = 1000 * scale }
rate_parts unit.Hertz digits scale span = record { num = digits; den = scale }
rate_parts unit.Kilohertz digits scale span = record { num = 1000 * digits; den = scale }
rate_parts unit.Megahertz digits scale span = record { num = 1000000 * digits; den = scale }
rate_parts _ digits scale span = record { num = 1000000000; den = span }

abbrev pub fraction_of : Quantity → Ratio
fraction_of q = if is_short q then rate_parts q.unit q.digits (10 ^ q.decimals) (span_of q) else record { num = 0; den = 0 }

-- the same fraction in lowest terms
pub record IsReduced (num den : ℕ) (r : Ratio) : Type 0 where
  pub divisor : 0 < den
  pub positive : 0 < r.den
  pub same : r.num * den ≡ num * r.den
  pub lowest : IsLowest r

-- a rate that is in range: by its parts, and by its period
pub record IsInRange (r : Ratio) : Type 0 where
  pub num : r.num ≤ 1000000000000000000
  pub den : r.den ≤ 4000000000000000000
  pub period : period_over r ≤ latest * r.num

-- a rate in lowest terms as it is noted: too fast where its period is below 1,000 nanoseconds
abbrev pub IsNotedAs : Ratio → WrittenRate → Type 0
IsNotedAs r rate.OutOfRange = ¬ (IsInRange r)
IsNotedAs r rate.TooFast = IsInRange r × (1000000 * r.den < r.num)
IsNotedAs r (rate.Of s) = (s ≡ r) × IsInRange r × (r.num ≤ 1000000 * r.den)

-- num/den Hz as they are noted
pub record IsWrittenAs (num den : ℕ) (w : WrittenRate) : Type 0 where
  pub zero_num : num ≡ 0 → w ≡ rate.OutOfRange
  pub zero_den : den ≡ 0 → w ≡ rate.OutOfRange
  pub noted : (r : Ratio) → 0 < num → IsReduced num den r → IsNotedAs r w
