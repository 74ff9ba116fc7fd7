-- Numbers with a sign are read back from how they are spelled.
use Rattle.std.proofs.Common.{◌≡◌, ◌≢◌, ℕ, ℤ, zero, suc, pos, negsuc, ◌+◌, ◌^◌, ◌<◌, List, ◌∷◌, Option, Some, decimal, refl, sym, ap, ◌∙◌, arith}
use Rattle.std.specs.Prelude.{neg_ℤ, unsigned_abs}
use Rattle.lola_value.specs.Numbers.{integer_text}
use Rattle.lola_save_text.proofs.Numbers.{decimal-digits, no-sign}

pub magnitude : (n : ℕ) → unsigned_abs (neg_ℤ (pos n)) ≡ n
magnitude zero = refl
magnitude (suc n) = omega arith

-- where there is no minus sign
pub plain-number : (bytes : List ℕ) (r : Option ℤ) → ((rest : List ℕ) → bytes ≢ 45 ∷ rest) → ((n : ℕ) → n < 2 ^ 127 → bytes ≡ decimal n → r ≡ Some (pos n))
    → (z : ℤ) → unsigned_abs z < 2 ^ 127 → bytes ≡ integer_text z → r ≡ Some z
plain-number bytes r never read (pos n) small e = read n small e
plain-number bytes r never read (negsuc n) small e = absurd (never (decimal (n + 1)) e)

-- where there is one
pub signed-number : (bytes digits : List ℕ) (r : Option ℤ) → bytes ≡ 45 ∷ digits → ((n : ℕ) → n < 2 ^ 127 → digits ≡ decimal n → r ≡ Some (neg_ℤ (pos n)))
    → (z : ℤ) → unsigned_abs z < 2 ^ 127 → bytes ≡ integer_text z → r ≡ Some z
signed-number bytes digits r e read (pos n) small f = absurd (no-sign (decimal n) digits (decimal-digits n (omega (arith, small))) (sym f ∙ e))
signed-number bytes digits r e read (negsuc n) small f =
    let g : 45 ∷ digits ≡ 45 ∷ decimal (n + 1) = sym e ∙ f in
    let h : digits ≡ decimal (n + 1) = cc g in
    read (n + 1) (omega (arith, small)) h ∙ sym (negative n)
  where
    negative : (n : ℕ) → Some (negsuc n) ≡ Some (neg_ℤ (pos (n + 1)))
    negative n = ap (λ m. Some (neg_ℤ (pos m))) (let e : suc n ≡ n + 1 = omega arith in e)
