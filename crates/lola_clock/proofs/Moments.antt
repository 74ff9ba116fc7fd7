-- The moment of a rate's first deadline: how it is found, that it stays until it is passed, and how the one behind it is found by addition.
use Rattle.std.proofs.Common.{◌≡◌, ℕ, ◌+◌, ◌-◌, ◌*◌, ◌/◌, ◌%◌, ◌<◌, ◌≤◌, Option, Some, None, Bool, true, false, min, nat_le, nat_lt, refl, ap, sym, ◌∙◌, arith, if◌then◌else◌, inl, inr}
use Rattle.std.proofs.lemmas.Bool.{leb-true, leb-false, cases_lt}
use Rattle.std.proofs.lemmas.Bool.Decides.{nat_tests}
use Rattle.std.proofs.lemmas.Nat.{div-mul-add, mod-mul-add, div-add-mod', mod_below}
use Rattle.std.proofs.Math.Nat.{le-div_iff_mul-le, mul-le-mul_right, div-mul-le_self}
use Rattle.lola_value.specs.Ratio.{Ratio}
use Rattle.lola_value.specs.Rate.{deadline, next_deadline, next_number, next_in_time, period_over}
use Rattle.lola_value.specs.Times.{latest}
use Rattle.lola_model.specs.StepOrder.{IsPositiveRate}
use Rattle.lola_model.proofs.Deadlines.{ceil_least, next_deadline_above}
use Rattle.lola_clock.specs.Timers.{IsMoment, due_of, rest_of, too_late}

-- the number of a rate's first deadline above a moment

number_least : (r : Ratio) (t k : ℕ) → IsPositiveRate r → t < deadline r k → next_number r t ≤ k
number_least r t k h lt =
    let d : 0 < r.den = h.den in
    let e : (t + 1) * r.num ≤ k * period_over r = (le-div_iff_mul-le h.num).0 (omega arith) in
    ceil_least ((t + 1) * r.num) (period_over r) k (omega arith) e

deadline_mono : (r : Ratio) (a b : ℕ) → IsPositiveRate r → a ≤ b → deadline r a ≤ deadline r b
deadline_mono r a b h le =
    let more : a * period_over r ≤ b * period_over r = mul-le-mul_right (period_over r) le in
    let self : a * period_over r / r.num * r.num ≤ a * period_over r = div-mul-le_self (a * period_over r) r.num in
    (le-div_iff_mul-le h.num).1 (omega arith)

-- is the number behind that of a deadline that is not above it, where the deadline of that number is
number_is : (r : Ratio) (t k : ℕ) → IsPositiveRate r → deadline r k ≤ t → t < deadline r (k + 1) → next_number r t ≡ k + 1
number_is r t k h below above =
    let least = number_least r t (k + 1) h above in
    elim (cases_lt k (next_number r t)) [
      | inl more ↦ omega arith
      | inr less ↦
          let first = next_deadline_above r t h in
          let order = deadline_mono r (next_number r t) k h less in
          absurd (omega arith)
    ]

-- and stays the same until its deadline is passed
number_kept : (r : Ratio) (p t : ℕ) → IsPositiveRate r → p ≤ t → t < next_deadline r p → next_number r p ≡ next_number r t
number_kept r p t h later above =
    let one = number_least r t (next_number r p) h above in
    let first = next_deadline_above r t h in
    let other = number_least r p (next_number r t) h (omega arith) in
    omega arith

-- an answer that is there is the one of the true case
found_if : (b : Bool) (m x n offset : ℕ) → nat_le x latest ≡ b → ◌≡◌ {A = Option (ℕ × ℕ)} (Some (n, offset)) (if b then Some (m, x) else None) → (n ≡ m) × (offset ≡ x) × (offset ≤ latest)
found_if true m x n offset e h =
    let both : ◌≡◌ {A = ℕ × ℕ} (n, offset) (m, x) = cc in
    let time : x ≤ latest = leb-true x latest e in
    let same : offset ≡ x = ap (λ (p : ℕ × ℕ). p.1) both in
    (ap (λ (p : ℕ × ℕ). p.0) both, same, omega arith)
found_if false m x n offset e h = absurd (cc)

pub found : (r : Ratio) (t n offset : ℕ) → ◌≡◌ {A = Option (ℕ × ℕ)} (Some (n, offset)) (next_in_time r t) → (n ≡ next_number r t) × (offset ≡ next_deadline r t) × (offset ≤ latest)
found r t n offset h = found_if (nat_le (next_deadline r t) latest) (next_number r t) (next_deadline r t) n offset refl h

-- it is the deadline of its number
pub found_deadline : (r : Ratio) (t n offset : ℕ) → ◌≡◌ {A = Option (ℕ × ℕ)} (Some (n, offset)) (next_in_time r t) → offset ≡ deadline r n
found_deadline r t n offset h = let f = found r t n offset h in f.1 ∙ ap (deadline r) (sym f.0)

-- where the next deadline is a time
pub due_found : (start passed : ℕ) (r : Ratio) (n offset due : ℕ) → ◌≡◌ {A = Option (ℕ × ℕ)} (Some (n, offset)) (next_in_time r (passed - start)) → due ≡ min (start + offset) too_late → due ≡ due_of start passed r
unfolding due_of
due_found start passed r n offset due h is = is ∙ ap (λ o. min (start + o) too_late) (found r (passed - start) n offset h).1

pub rest_found : (start passed : ℕ) (r : Ratio) (n offset rest given : ℕ) → ◌≡◌ {A = Option (ℕ × ℕ)} (Some (n, offset)) (next_in_time r (passed - start)) → given ≡ (n * period_over r) % r.num
    → rest ≡ (if nat_lt (start + offset) too_late then given else 0) → rest ≡ rest_of start passed r
unfolding rest_of
rest_found start passed r n offset rest given h g is =
    let f = found r (passed - start) n offset h in
    is ∙ (λ i. if nat_lt (start + f.1 i) too_late then (g ∙ ap (λ k. (k * period_over r) % r.num) f.0) i else 0)

-- an answer that is not there is the one of the false case
none_if : (b : Bool) (m x start : ℕ) → nat_le x latest ≡ b → ◌≡◌ {A = Option (ℕ × ℕ)} None (if b then Some (m, x) else None) → latest < start + x
none_if true m x start e h = absurd (cc)
none_if false m x start e h = let above : latest < x = leb-false x latest e in omega arith

none_late : (start passed : ℕ) (r : Ratio) → None ≡ next_in_time r (passed - start) → latest < start + next_deadline r (passed - start)
none_late start passed r h = none_if (nat_le (next_deadline r (passed - start)) latest) (next_number r (passed - start)) (next_deadline r (passed - start)) start refl h

not_below : (a : ℕ) → latest < a → nat_lt a too_late ≡ false
not_below a h = grind (arith, nat_tests)

-- where it is none
pub due_none : (start passed : ℕ) (r : Ratio) → None ≡ next_in_time r (passed - start) → too_late ≡ due_of start passed r
unfolding due_of
due_none start passed r h = let late = none_late start passed r h in omega arith

pub rest_none : (start passed : ℕ) (r : Ratio) → None ≡ next_in_time r (passed - start) → 0 ≡ rest_of start passed r
unfolding rest_of
rest_none start passed r h =
    sym (ap (λ b. if b then (next_number r (passed - start) * period_over r) % r.num else 0) (not_below (start + next_deadline r (passed - start)) (none_late start passed r h)))

-- a moment that is not passed stays the next
kept_number : (start passed to : ℕ) (r : Ratio) → IsPositiveRate r → start ≤ passed → passed ≤ to → to < due_of start passed r → next_number r (passed - start) ≡ next_number r (to - start)
unfolding due_of
kept_number start passed to r h order later above = number_kept r (passed - start) (to - start) h (omega arith) (omega arith)

pub due_kept : (start passed to : ℕ) (r : Ratio) → IsPositiveRate r → start ≤ passed → passed ≤ to → to < due_of start passed r → due_of start passed r ≡ due_of start to r
unfolding due_of
due_kept start passed to r h order later above = ap (λ n. min (start + deadline r n) too_late) (number_kept r (passed - start) (to - start) h (omega arith) (omega arith))

pub rest_kept : (start passed to : ℕ) (r : Ratio) → IsPositiveRate r → start ≤ passed → passed ≤ to → to < due_of start passed r → rest_of start passed r ≡ rest_of start to r
unfolding rest_of
rest_kept start passed to r h order later above =
    ap (λ n. if nat_lt (start + deadline r n) too_late then (n * period_over r) % r.num else 0) (kept_number start passed to r h order later above)

-- a moment at which a rate's timer stands, and which is a time, is a deadline
below_yes : (a : ℕ) → a ≤ latest → nat_lt a too_late ≡ true
below_yes a h = grind (arith, nat_tests)

pub set_stands : (start passed to : ℕ) (r : Ratio) → to ≤ latest → due_of start passed r ≤ to → IsMoment start r (next_number r (passed - start)) (due_of start passed r) (rest_of start passed r)
unfolding due_of rest_of
set_stands start passed to r in_time le = record {
  due_is = omega arith;
  rest_is = ap (λ b. if b then (next_number r (passed - start) * period_over r) % r.num else 0) (below_yes (start + next_deadline r (passed - start)) (omega arith));
}

-- one period more: sums of what whole nanoseconds and parts there are
pub sum_of : (x over num : ℕ) → x + over ≡ (x / num + over / num) * num + (x % num + over % num)
sum_of x over num =
    let a = div-add-mod' x num in
    let b = div-add-mod' over num in
    omega arith

pub later_whole : (start number due rest : ℕ) (r : Ratio) (whole part : ℕ) → IsMoment start r number due rest → whole ≡ period_over r / r.num → part ≡ period_over r % r.num → rest + part < r.num
    → IsMoment start r (number + 1) (due + whole) (rest + part)
later_whole start number due rest r whole part m w p less =
    let over = period_over r in
    let x = number * over in
    let sum : (number + 1) * over ≡ (x / r.num + over / r.num) * r.num + (x % r.num + over % r.num) = (let s = sum_of x over r.num in omega arith) in
    let d = m.due_is in
    let e = m.rest_is in
    let small : x % r.num + over % r.num < r.num = omega arith in
    let quotient : (number + 1) * over / r.num ≡ x / r.num + over / r.num = ap (λ y. y / r.num) sum ∙ div-mul-add (x / r.num + over / r.num) r.num (x % r.num + over % r.num) small in
    let left : (number + 1) * over % r.num ≡ x % r.num + over % r.num = ap (λ y. y % r.num) sum ∙ mod-mul-add (x / r.num + over / r.num) r.num (x % r.num + over % r.num) small in
    record { due_is = omega arith; rest_is = omega arith }

pub later_part : (start number due rest : ℕ) (r : Ratio) (whole part : ℕ) → 0 < r.num → IsMoment start r number due rest → whole ≡ period_over r / r.num → part ≡ period_over r % r.num → r.num ≤ rest + part
    → IsMoment start r (number + 1) (due + whole + 1) (rest + part - r.num)
later_part start number due rest r whole part pos m w p more =
    let over = period_over r in
    let x = number * over in
    let s = sum_of x over r.num in
    let d = m.due_is in
    let e = m.rest_is in
    let one : x % r.num < r.num = mod_below x r.num pos in
    let two : over % r.num < r.num = mod_below over r.num pos in
    let small : x % r.num + over % r.num - r.num < r.num = omega arith in
    let sum : (number + 1) * over ≡ (x / r.num + over / r.num + 1) * r.num + (x % r.num + over % r.num - r.num) = omega arith in
    let quotient : (number + 1) * over / r.num ≡ x / r.num + over / r.num + 1 = ap (λ y. y / r.num) sum ∙ div-mul-add (x / r.num + over / r.num + 1) r.num (x % r.num + over % r.num - r.num) small in
    let left : (number + 1) * over % r.num ≡ x % r.num + over % r.num - r.num = ap (λ y. y % r.num) sum ∙ mod-mul-add (x / r.num + over / r.num + 1) r.num (x % r.num + over % r.num - r.num) small in
    record { due_is = omega arith; rest_is = omega arith }

-- what cutting a deadline left is less than a nanosecond
pub rest_small : (start number due rest : ℕ) (r : Ratio) → 0 < r.num → IsMoment start r number due rest → rest < r.num
rest_small start number due rest r pos m =
    let e = m.rest_is in
    let less = mod_below (number * period_over r) r.num pos in
    omega arith

-- the deadline behind one that is not above a moment, where it is above, is the first above
stepped_number : (start to number due next rest next_rest : ℕ) (r : Ratio) → IsPositiveRate r → start ≤ to → IsMoment start r number due rest → IsMoment start r (number + 1) next next_rest → due ≤ to → to < next → next_number r (to - start) ≡ number + 1
stepped_number start to number due next rest next_rest r h order m n below above =
    let d = m.due_is in
    let e = n.due_is in
    number_is r (to - start) number h (omega arith) (omega arith)

pub due_stepped : (start to number due next rest next_rest given : ℕ) (r : Ratio) → IsPositiveRate r → start ≤ to → IsMoment start r number due rest → IsMoment start r (number + 1) next next_rest → due ≤ to → to < next → given ≡ min next too_late → given ≡ due_of start to r
unfolding due_of
due_stepped start to number due next rest next_rest given r h order m n below above is =
    let k = stepped_number start to number due next rest next_rest r h order m n below above in
    is ∙ ap (λ d. min d too_late) (n.due_is ∙ ap (λ k. start + deadline r k) (sym k))

pub rest_stepped : (start to number due next rest next_rest given : ℕ) (r : Ratio) → IsPositiveRate r → start ≤ to → IsMoment start r number due rest → IsMoment start r (number + 1) next next_rest → due ≤ to → to < next
    → given ≡ (if nat_lt next too_late then next_rest else 0) → given ≡ rest_of start to r
unfolding rest_of
rest_stepped start to number due next rest next_rest given r h order m n below above is =
    let k = stepped_number start to number due next rest next_rest r h order m n below above in
    is ∙ (λ i. if nat_lt ((n.due_is ∙ ap (λ k. start + deadline r k) (sym k)) i) too_late then (n.rest_is ∙ ap (λ k. (k * period_over r) % r.num) (sym k)) i else 0)
