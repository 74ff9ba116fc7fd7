-- Times are read back from their texts, and what is read leniently, written again and compared is read exactly.
use Rattle.std.proofs.Common.{◌≡◌, ◌≢◌, ℕ, ◌+◌, ◌-◌, ◌*◌, ◌/◌, ◌%◌, ◌≤◌, List, [], ◌∷◌, ◌++◌, Bool, true, false, not, cond, Option, Some, None, if◌then◌else◌, codes, decimal, refl, sym, ap, subst, ◌∙◌, arith, add-one, length, take, drop, replicate}
use Rattle.std.specs.Prelude.{nat_le}
use Rattle.std.specs.List.{list_all, list_any, after_first, before_first, position_or_len}
use Rattle.std.proofs.Math.Seq.{take-append_seam}
use Rattle.std.proofs.lemmas.Bool.{and_from, and_parts, le-leb, leb-true, lt-ltb, ne_eqb, or_from, or_parts}
use Rattle.std.proofs.lemmas.Fmt.{decimal_nonempty}
use Rattle.std.proofs.lemmas.List.{length-append, length-replicate}
use Rattle.lola_value.specs.Times.{is_digit, is_point, is_time, latest, nanoseconds, nine_digits, number_of, read_time, time_text, up_to_latest}
use Rattle.lola_value.proofs.Printing.{nine_at_most}
use Rattle.lola_save_text.specs.Fitting.{is_start}
use Rattle.lola_save_text.specs.Lines.{time_or_dash}
use Rattle.lola_save_text.proofs.Numbers.{decimal-digits, decimal-value, nine-all, nine-value}

-- the first byte that passes a test, behind bytes that do not
module _ (p : ℕ → Bool) (ys : List ℕ) (c : ℕ) (hit : p c ≡ true) where
  first-place : (xs : List ℕ) → list_any p xs ≡ false → position_or_len p (xs ++ (c ∷ ys)) ≡ length xs
  first-place [] none = ap (λ b. cond (not b) (1 + position_or_len p ys) 0) hit
  first-place (x ∷ xs) none =
      let q = or_parts (p x) (list_any p xs) none in
      let h = first-place xs q.1 in
      ap (λ b. cond (not b) (1 + position_or_len p (xs ++ (c ∷ ys))) 0) q.0 ∙ omega (arith, h)

  first-before : (xs : List ℕ) → list_any p xs ≡ false → before_first p (xs ++ (c ∷ ys)) ≡ xs
  first-before xs none = ap (λ k. take k (xs ++ (c ∷ ys))) (first-place xs none) ∙ take-append_seam xs (c ∷ ys)

  seam : (zs : List ℕ) → drop (length zs + 1) (zs ++ (c ∷ ys)) ≡ ys
  seam [] = refl
  seam (z ∷ zs) = rw add-one (subst (λ k. drop k (zs ++ (c ∷ ys)) ≡ ys) (add-one (length zs)) (seam zs))

  first-after : (xs : List ℕ) → list_any p xs ≡ false → after_first p (xs ++ (c ∷ ys)) ≡ ys
  first-after xs none = ap (λ k. drop (k + 1) (xs ++ (c ∷ ys))) (first-place xs none) ∙ seam xs

-- digits have no point
digits-no-point : (xs : List ℕ) → list_all is_digit xs ≡ true → list_any is_point xs ≡ false
digits-no-point [] h = refl
digits-no-point (x ∷ xs) h =
    let p = and_parts (is_digit x) (list_all is_digit xs) h in
    let low : 48 ≤ x = leb-true 48 x (and_parts (nat_le 48 x) (nat_le x 57) p.0).0 in
    or_from (is_point x) (list_any is_point xs) (ne_eqb x 46 (λ e. absurd (omega (arith, e, low)))) (digits-no-point xs p.1)

nine-length : (m : ℕ) → length (decimal m) ≤ 9 → length (nine_digits m) ≡ 9
nine-length m short =
    let sum = length-append (replicate (9 - length (decimal m)) 48) (decimal m) in
    let zeros = length-replicate {A = ℕ} (9 - length (decimal m)) 48 in
    omega (arith, sum, zeros, short)

-- what is read of the digits before and behind a point
abbrev timed : List ℕ → List ℕ → Option ℕ
timed whole decimals = if is_time whole decimals then up_to_latest (nanoseconds whole decimals) else None

module _ (t : ℕ) (in_time : t ≤ latest) where
  timed-is : timed (decimal (t / 1000000000)) (nine_digits (t % 1000000000)) ≡ Some t
  timed-is =
      let m = t % 1000000000 in
      let w = decimal (t / 1000000000) in
      let some = decimal_nonempty (t / 1000000000) (omega arith) in
      let long : length (nine_digits m) ≡ 9 = nine-length m (nine_at_most t) in
      let nine : take 9 (nine_digits m ++ replicate 9 48) ≡ nine_digits m =
      subst (λ (k : ℕ). take k (nine_digits m ++ replicate 9 48) ≡ nine_digits m) long (take-append_seam (nine_digits m) (replicate 9 48)) in
      let digits : is_time w (nine_digits m) ≡ true =
      and_from _ _ (and_from _ _ (decimal-digits (t / 1000000000) (omega arith)) (nine-all m (omega arith))) (lt-ltb 0 (length w + length (nine_digits m)) (omega (arith, some))) in
      let value : nanoseconds w (nine_digits m) ≡ t =
      ap (λ k. number_of w * 1000000000 + number_of k) nine ∙ ap (λ k. number_of w * 1000000000 + k) (nine-value m (omega arith))
      ∙ ap (λ k. k * 1000000000 + m) (decimal-value (t / 1000000000) (omega arith)) ∙ (let e : t / 1000000000 * 1000000000 + t % 1000000000 ≡ t = omega arith in e) in
      rw digits (ap up_to_latest value ∙ rw (le-leb t latest in_time) refl)

  pub time-back : read_time (time_text t) ≡ Some t
  time-back =
      let w = decimal (t / 1000000000) in
      let d = nine_digits (t % 1000000000) in
      let none = digits-no-point w (decimal-digits (t / 1000000000) (omega arith)) in
      ap (λ b. timed b (after_first is_point (w ++ (46 ∷ d)))) (first-before is_point d 46 refl w none)
      ∙ ap (timed w) (first-after is_point d 46 refl w none)
      ∙ timed-is

-- a candidate that is the number, where there is one, but is not written so
pub not-written : (text : ℕ → List ℕ) (bytes : List ℕ) (r : Bool) (m n : ℕ) → (bytes ≡ text m → r ≡ true) → r ≡ false → Some m ≡ Some n → bytes ≡ text n → ⊥
not-written text bytes r m n back out same e =
    let s : m ≡ n = cc same in
    let t : r ≡ true = back (e ∙ ap text (sym s)) in
    let f : true ≡ false = sym t ∙ out in
    cc f

-- no time and no dash
pub no-dash-time : (bytes : List ℕ) → (bytes ≡ codes "-" → ⊥) → ((t : ℕ) → t ≤ latest → bytes ≢ time_text t) → (o : Option ℕ) → is_start o ≡ true → bytes ≢ time_or_dash o
no-dash-time bytes dash never None s e = dash e
no-dash-time bytes dash never (Some t) s e = never t (leb-true t latest s) e

pub is-start-yes : (t : ℕ) → t ≤ latest → is_start (Some t) ≡ true
is-start-yes t l = le-leb t latest l
