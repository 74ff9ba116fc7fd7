-- The formula of deadlines, and the deadlines of a rate by their numbers.
use Rattle.std.proofs.Common.{◌≡◌, ℕ, ◌+◌, ◌-◌, ◌*◌, ◌<◌, ◌≤◌, ◌↔◌, ◌⊎◌, inl, inr, refl, sym, subst, [], ◌∷◌, true, ◌&&◌, nat_eq, nat_lt, arith}
use Rattle.std.proofs.lemmas.Bool.Decides.{nat_tests}
use Rattle.std.proofs.Math.Nat.{le-div_iff_mul-le, mul-le-mul_right}
use Rattle.std.specs.List.{Contains}
use Rattle.lola_value.specs.Ratio.{Ratio}
use Rattle.lola_value.specs.Rate.{deadline, next_deadline, period_over, IsDeadline, IsRate}
use Rattle.lola_model.specs.Activity.{is_deadline}
use Rattle.lola_model.specs.NextStep.{IsDeadlineSince}
use Rattle.lola_model.specs.StepOrder as order
use Rattle.lola_model.proofs.Deadlines.{IsSomeDeadline, first_after_is, next_deadline_above, next_deadline_least}
use Rattle.lola_model.proofs.Strictly.{Contains-here, Contains-cases, Contains-none}
use Rattle.lola_front_law.specs.Formula.{IsDeadlineFrom, HasDeadlines, AreDeadlines}

is_later : (x after : ℕ) → (nat_lt 0 after && nat_eq x after) ≡ true → 0 < after
is_later x after e = grind (arith, nat_tests)

is_same : (x after : ℕ) → (nat_lt 0 after && nat_eq x after) ≡ true → x ≡ after
is_same x after e = grind (arith, nat_tests)

passes : (x after : ℕ) → 0 < after → x ≡ after → (nat_lt 0 after && nat_eq x after) ≡ true
passes x after l e = grind (arith, nat_tests)

-- whatever fraction above 0, at moments after that from which it counts
module _ (r : Ratio) (is : order.IsPositiveRate r) where
  one_of : (t : ℕ) → IsSomeDeadline (r ∷ []) t → IsDeadline r t
  one_of t (inl d) = d
  one_of t (inr w) = absurd w

  pub formula_sound : (after : ℕ) → is_deadline r after ≡ true → (0 < after) × IsDeadline r after
  formula_sound after e =
      let same : next_deadline r (after - 1) ≡ after = is_same (next_deadline r (after - 1)) after e in
      (is_later (next_deadline r (after - 1)) after e, subst (λ t. IsDeadline r t) same (one_of (next_deadline r (after - 1)) (first_after_is (r ∷ []) (after - 1) (next_deadline r (after - 1)) (is, tt) refl)))

  pub formula_complete : (after : ℕ) → 0 < after → IsDeadline r after → is_deadline r after ≡ true
  formula_complete after later d =
      let at : deadline r d.0 ≡ after = d.2 in
      let below : after - 1 < deadline r d.0 = omega arith in
      let above : after - 1 < next_deadline r (after - 1) = next_deadline_above r (after - 1) is in
      let least : next_deadline r (after - 1) ≤ deadline r d.0 = next_deadline_least r (after - 1) d.0 is below in
      passes (next_deadline r (after - 1)) after later (omega arith)

-- since a moment, by this rate alone
deadline_since : (r : Ratio) (counted time : ℕ) → IsDeadlineSince counted (r ∷ []) time → IsDeadline r (time - counted)
deadline_since r counted time w = go (Contains-cases r w.rate [] w.listed)
  where
    go : (r ≡ w.rate) ⊎ Contains [] w.rate → IsDeadline r (time - counted)
    go (inl e) = subst (λ q. IsDeadline q (time - counted)) (sym e) w.deadline
    go (inr c) = absurd (Contains-none w.rate c)

fraction_sound : (r : Ratio) → order.IsPositiveRate r → (counted time : ℕ) → is_deadline r (time - counted) ≡ true → IsDeadlineSince counted (r ∷ []) time
fraction_sound r is counted time e =
    let w = formula_sound r is (time - counted) e in
    let later : 0 < time - counted = w.0 in
    record { rate = r; listed = Contains-here r []; later = omega arith; deadline = w.1 }

fraction_complete : (r : Ratio) → order.IsPositiveRate r → (counted time : ℕ) → IsDeadlineSince counted (r ∷ []) time → is_deadline r (time - counted) ≡ true
fraction_complete r is counted time w =
    let later : counted < time = w.later in formula_complete r is (time - counted) (omega arith) (deadline_since r counted time w)

-- each rate is above 0
pub weaker : (r : Ratio) → IsRate r → order.IsPositiveRate r
weaker r is = record { num = is.num; den = is.den }

module _ (r : Ratio) (is : IsRate r) where
  -- and no deadline stands where the rate counts from, since it is slow enough
  no_deadline_there : (after : ℕ) → IsDeadline r after → 0 < after
  no_deadline_there after d =
      let slow : r.num ≤ 1000000 * r.den = is.limits.frequency in
      let one : 1 * period_over r ≤ d.0 * period_over r = mul-le-mul_right (period_over r) d.1 in
      let enough : 1 * r.num ≤ d.0 * period_over r = omega arith in
      let at : deadline r d.0 ≡ after = d.2 in
      let first : 1 ≤ deadline r d.0 = (le-div_iff_mul-le is.num).1 enough in
      omega arith

  formula : (after : ℕ) → (is_deadline r after ≡ true) ↔ IsDeadline r after
  formula after = (λ e. (formula_sound r (weaker r is) after e).1, λ d. formula_complete r (weaker r is) after (no_deadline_there after d) d)

  from_sound : (counted time : ℕ) → is_deadline r (time - counted) ≡ true → IsDeadlineFrom counted r time
  from_sound counted time e =
      let w = formula_sound r (weaker r is) (time - counted) e in
      let later : 0 < time - counted = w.0 in
      (time - counted, w.1, omega arith)

  from_complete : (counted time : ℕ) → IsDeadlineFrom counted r time → is_deadline r (time - counted) ≡ true
  from_complete counted time w =
      let at : counted + w.0 ≡ time = w.2 in
      let same : w.0 ≡ time - counted = omega arith in
      subst (λ t. is_deadline r t ≡ true) same (formula_complete r (weaker r is) w.0 (no_deadline_there w.0 w.1) w.1)

  since_from : (counted time : ℕ) → IsDeadlineSince counted (r ∷ []) time → IsDeadlineFrom counted r time
  since_from counted time w = let later : counted < time = w.later in (time - counted, deadline_since r counted time w, omega arith)

  from_since : (counted time : ℕ) → IsDeadlineFrom counted r time → IsDeadlineSince counted (r ∷ []) time
  from_since counted time w =
      let at : counted + w.0 ≡ time = w.2 in
      let above : 0 < w.0 = no_deadline_there w.0 w.1 in
      let same : w.0 ≡ time - counted = omega arith in
      record { rate = r; listed = Contains-here r []; later = omega arith; deadline = subst (λ t. IsDeadline r t) same w.1 }

  has_deadlines : HasDeadlines r
  has_deadlines = record {
    formula = formula;
    from_start = λ start born time. (from_sound start time, from_complete start time);
    from_birth = λ start born time. (from_sound born time, from_complete born time);
    not_from_start = λ start born row. refl;
    not_from_birth = λ start born row. refl;
    since = λ counted time. (since_from counted time, from_since counted time);
  }

-- the law
pub are_deadlines : AreDeadlines
are_deadlines = record { rates = λ r is. has_deadlines r is; fractions = λ r is counted time. (fraction_sound r is counted time, fraction_complete r is counted time) }
