-- Lists without some byte.
use Rattle.std.proofs.Common.{◌≡◌, ◌<◌, ◌≤◌, ◌+◌, ℕ, suc, List, [], ◌∷◌, ◌++◌, ◌∙◌, inl, inr, Bool, true, false, refl, ap, subst, arith, take, drop, length, add-one}
use Rattle.std.specs.Prelude.{nat_eq, nat_lt, not, Contains}
use Rattle.std.specs.List.{list_all, list_any, position_or_len, before_first, after_first}
use Rattle.std.proofs.Math.ListN.{get_or-append}
use Rattle.std.proofs.Math.Seq.{take-append_seam, get_or-append_seam}
use Rattle.std.proofs.lemmas.Bool.{and_parts, eq-eqb, leb-true, ltb-true, ne_eqb, or_from, or_parts}
use Rattle.std.proofs.lemmas.List.{length-append}
use Rattle.std.proofs.lemmas.List.Folds.{list_any-append}
use Rattle.std.proofs.lemmas.List.Sums.{position_or_len_is}
use Rattle.std.proofs.lemmas.List.Elements.{Contains-append_left, Contains-append_right, Contains-push}
use Rattle.lola_model.proofs.Strictly.{Contains-cases, Contains-none}
use Rattle.lola_value.specs.Times.{is_digit, is_point}
use Rattle.lola_rows.specs.Line.{ends_line, has_line_end}
use Rattle.lola_rows.proofs.LineFacts.{any-at}
use Rattle.lola_report.specs.Journals.{is_lf}
use Rattle.lola_report.proofs.Mild.{Mild, is_mild}

digit-range : (b : ℕ) → is_digit b ≡ true → (48 ≤ b) × (b ≤ 57)
digit-range b h = let p = and_parts _ _ h in (leb-true _ _ p.0, leb-true _ _ p.1)

-- numbers, times, truth values and marks end no line
pub mild-one-line : (xs : List ℕ) → Mild xs → has_line_end xs ≡ false
mild-one-line [] m = refl
mild-one-line (x ∷ xs) m =
    let p = and_parts (is_mild x) (list_all is_mild xs) m in
    let high : 34 < x = ltb-true 34 x (and_parts (nat_lt 34 x) (not (nat_eq x 44)) p.0).0 in
    or_from (ends_line x) (has_line_end xs)
    (or_from (nat_eq x 13) (nat_eq x 10) (ne_eqb x 13 (λ e. absurd (omega (arith, e, high)))) (ne_eqb x 10 (λ e. absurd (omega (arith, e, high)))))
    (mild-one-line xs p.1)

pub digits-no-point : (xs : List ℕ) → list_all is_digit xs ≡ true → list_any is_point xs ≡ false
digits-no-point [] h = refl
digits-no-point (x ∷ xs) h =
    let p = and_parts _ _ h in
    let r = digit-range x p.0 in
    or_from _ _ (ne_eqb x 46 (λ e. absurd (omega (arith, e, r.0)))) (digits-no-point xs p.1)

-- a text is one line
pub line-append : (xs ys : List ℕ) → has_line_end xs ≡ false → has_line_end ys ≡ false → has_line_end (xs ++ ys) ≡ false
line-append xs ys a b = list_any-append ends_line xs ys ∙ or_from _ _ a b

pub line-no-lf : (xs : List ℕ) → has_line_end xs ≡ false → list_any is_lf xs ≡ false
line-no-lf [] h = refl
line-no-lf (x ∷ xs) h =
    let p = or_parts _ _ h in
    let q = or_parts _ _ p.0 in
    or_from _ _ q.1 (line-no-lf xs p.1)

pub line-no-cr : (xs : List ℕ) → has_line_end xs ≡ false → list_any (λ b. nat_eq b 13) xs ≡ false
line-no-cr [] h = refl
line-no-cr (x ∷ xs) h =
    let p = or_parts _ _ h in
    let q = or_parts _ _ p.0 in
    or_from _ _ q.0 (line-no-cr xs p.1)

-- the first byte that passes a test, behind bytes that do not
module _ (p : ℕ → Bool) (xs ys : List ℕ) (c : ℕ) (none : list_any p xs ≡ false) (hit : p c ≡ true) where
  first-place : position_or_len p (xs ++ (c ∷ ys)) ≡ length xs
  first-place =
      let long : length (xs ++ (c ∷ ys)) ≡ length xs + suc (length ys) = length-append xs (c ∷ ys) in
      position_or_len_is p (xs ++ (c ∷ ys)) (length xs) 0 (omega (arith, long))
      (λ k lt. ap p (get_or-append xs (c ∷ ys) 0 k lt) ∙ any-at p xs k lt none)
      (λ lt. ap p (get_or-append_seam xs c ys 0) ∙ hit)

  pub first-before : before_first p (xs ++ (c ∷ ys)) ≡ xs
  first-before = ap (λ k. take k (xs ++ (c ∷ ys))) first-place ∙ take-append_seam xs (c ∷ ys)

  pub first-after : after_first p (xs ++ (c ∷ ys)) ≡ ys
  first-after = ap (λ k. drop (k + 1) (xs ++ (c ∷ ys))) first-place ∙ seam xs
    where
      seam : (zs : List ℕ) → drop (length zs + 1) (zs ++ (c ∷ ys)) ≡ ys
      seam [] = refl
      seam (z ∷ zs) = rw add-one (subst (λ k. drop k (zs ++ (c ∷ ys)) ≡ ys) (add-one (length zs)) (seam zs))

-- a byte is in no list where no test finds it
pub absent-from : (c : ℕ) (xs : List ℕ) → list_any (λ b. nat_eq b c) xs ≡ false → ¬ (Contains xs c)
absent-from c [] h is = Contains-none c is
absent-from c (x ∷ xs) h is =
    let p = or_parts _ _ h in
    elim (Contains-cases x c xs is) [
      | inl e ↦ (let t : nat_eq x c ≡ true = eq-eqb x c e in let f : nat_eq x c ≡ false = p.0 in absurd (cc))
      | inr d ↦ absent-from c xs p.1 d
    ]

pub none-from : (c : ℕ) (xs : List ℕ) → ¬ (Contains xs c) → list_any (λ b. nat_eq b c) xs ≡ false
none-from c [] out = refl
none-from c (x ∷ xs) out =
    or_from _ _
    (ne_eqb x c (λ e. out (Contains-append_left (x ∷ []) xs c (subst (λ (d : ℕ). Contains (x ∷ []) d) e (Contains-push [] x)))))
    (none-from c xs (λ d. out (Contains-append_right (x ∷ []) xs c d)))
