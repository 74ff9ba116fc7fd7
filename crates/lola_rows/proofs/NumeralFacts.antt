-- What more digits do to a number.
use Rattle.std.proofs.Common.{◌≡◌, ℕ, ◌+◌, ◌-◌, ◌*◌, ◌<◌, ◌≤◌, true, false, List, [], ◌∷◌, Option, Some, None, length, drop, get_or, nat_lt, nat_eq, if◌then◌else◌, refl, ap, ◌∙◌, arith, inl, inr}
use Rattle.std.specs.List.{list_all}
use Rattle.std.proofs.lemmas.Bool.{cases_Bool, le-ltb, lt-ltb, ltb-false, ltb-true}
use Rattle.std.proofs.lemmas.List.{drop_all, drop_more}
use Rattle.lola_value.specs.Times.{is_digit, number_after}
use Rattle.lola_rows.specs.Values.{below, digit_after}
use Rattle.lola_rows.specs.Values.{read_digits}

-- the number with these digits behind those of n
abbrev pub digits_on : ℕ → List ℕ → Option ℕ
digits_on n digits = if list_all is_digit digits then Some (number_after n digits) else None

pub below-none : (b n : ℕ) → b ≤ n → below b (Some n) ≡ None
below-none b n h = rw (le-ltb n b h) refl

pub below-some : (b n : ℕ) → n < b → below b (Some n) ≡ Some n
below-some b n h = rw (lt-ltb n b h) refl

pub below-is : (b m : ℕ) (o : Option ℕ) → below b o ≡ Some m → m < b
below-is b m None h = absurd (cc h)
below-is b m (Some n) h = elim (cases_Bool (nat_lt n b)) [
  | inl under ↦ let h2 = rw under at h in let e : n ≡ m = cc in let lt = ltb-true _ _ under in omega (arith, e, lt)
  | inr over ↦ let h2 = rw over at h in absurd (cc h2)
]

pub digits-next : (n c : ℕ) (rest : List ℕ) → is_digit c ≡ true → digits_on n (c ∷ rest) ≡ digits_on (n * 10 + (c - 48)) rest
digits-next n c rest hit = rw hit refl

pub digits-stop : (n c : ℕ) (rest : List ℕ) → is_digit c ≡ false → digits_on n (c ∷ rest) ≡ None
digits-stop n c rest miss = rw miss refl

-- more digits never make a number smaller
pub digits-large : (b n : ℕ) (xs : List ℕ) → b ≤ n → below b (digits_on n xs) ≡ None
digits-large b n [] h = below-none b n h
digits-large b n (c ∷ rest) h = elim (cases_Bool (is_digit c)) [
  | inl hit ↦ ap (below b) (digits-next n c rest hit) ∙ digits-large b (n * 10 + (c - 48)) rest (omega arith)
  | inr miss ↦ ap (below b) (digits-stop n c rest miss)
]

-- a digit more that fits
pub digits-some : (b n m c : ℕ) (rest : List ℕ) → below b (digit_after n c) ≡ Some m → digits_on n (c ∷ rest) ≡ digits_on m rest
digits-some b n m c rest h = elim (cases_Bool (is_digit c)) [
  | inl hit ↦
      let h2 = rw hit at h in
      elim (cases_Bool (nat_lt (n * 10 + (c - 48)) b)) [
        | inl under ↦ let h3 = rw under at h2 in let e : n * 10 + (c - 48) ≡ m = cc in digits-next n c rest hit ∙ ap (λ k. digits_on k rest) e
        | inr over ↦ let h3 = rw over at h2 in absurd (cc h3)
      ]
  | inr miss ↦ let h2 = rw miss at h in absurd (cc h2)
]

-- a byte that is no digit, or a digit more that does not fit
pub digits-none : (b n c : ℕ) (rest : List ℕ) → below b (digit_after n c) ≡ None → below b (digits_on n (c ∷ rest)) ≡ None
digits-none b n c rest h = elim (cases_Bool (is_digit c)) [
  | inl hit ↦
      let h2 = rw hit at h in
      elim (cases_Bool (nat_lt (n * 10 + (c - 48)) b)) [
        | inl under ↦ let h3 = rw under at h2 in absurd (cc h3)
        | inr over ↦ ap (below b) (digits-next n c rest hit) ∙ digits-large b (n * 10 + (c - 48)) rest (ltb-false _ _ over)
      ]
  | inr miss ↦ ap (below b) (digits-stop n c rest miss)
]

-- digits, of which there is one at least
pub digits-start : (xs : List ℕ) → 0 < length xs → read_digits xs ≡ digits_on 0 xs
digits-start xs some = elim (cases_Bool (list_all is_digit xs)) [
  | inl all ↦ rw (all, lt-ltb 0 (length xs) some) refl
  | inr not ↦ rw not refl
]

pub no-digits : (xs : List ℕ) → length xs ≡ 0 → read_digits xs ≡ None
no-digits [] none = refl
no-digits (x ∷ xs) none = absurd (omega arith)

-- the same at a place of a text
pub digits-some-at : (b n m : ℕ) (xs : List ℕ) (i : ℕ) → i < length xs → below b (digit_after n (get_or xs i 0)) ≡ Some m → digits_on n (drop i xs) ≡ digits_on m (drop (i + 1) xs)
digits-some-at b n m xs i within h = ap (digits_on n) (drop_more xs i 0 within) ∙ digits-some b n m (get_or xs i 0) (drop (i + 1) xs) h

pub digits-none-at : (b n : ℕ) (xs : List ℕ) (i : ℕ) → i < length xs → below b (digit_after n (get_or xs i 0)) ≡ None → below b (digits_on n (drop i xs)) ≡ None
digits-none-at b n xs i within h = ap (λ (l : List ℕ). below b (digits_on n l)) (drop_more xs i 0 within) ∙ digits-none b n (get_or xs i 0) (drop (i + 1) xs) h

-- all digits were read
pub digits-done-at : (n : ℕ) (xs : List ℕ) (i : ℕ) → length xs ≤ i → digits_on n (drop i xs) ≡ Some n
digits-done-at n xs i past = ap (digits_on n) (drop_all i xs past)

pub some-digits : (xs : List ℕ) → false ≡ nat_eq (length xs) 0 → 0 < length xs
some-digits [] h = absurd (cc h)
some-digits (x ∷ xs) h = omega arith
