-- Numbers that no kind has, and texts by their bytes.
use Rattle.std.proofs.Common.{◌≡◌, ℕ, ℤ, zero, suc, pos, negsuc, neg_ℤ, ◌≤ℤ◌, ◌≤◌, ◌^◌, Bool, false, List, [], ◌∷◌, Option, Some, None, option_map, nat_eq, nat_lt, length, ◌||◌, codes, refl, sym, ap, ◌∙◌, arith, inl, inr}
use Rattle.std.proofs.lemmas.Bool.{cases_Bool, ltb-false, ne_eqb}
use Rattle.std.proofs.lemmas.Int.{ints}
use Rattle.lola_value.specs.declared.value.Kind.{Kind}
use Rattle.lola_value.specs.Arithmetic.{bytes_equal, is_within}
use Rattle.lola_value.proofs.Ranges.{small}
use Rattle.lola_rows.specs.Values.{and_then, below, in_range, is_absent, read_truth, read_digits, read_number, small_integer}

-- a number of 65 bits or more is of no kind
large : (k : Kind) (n : ℕ) → 2 ^ 64 ≤ n → is_within k (pos n) ≡ false
large k n big = elim (cases_Bool (is_within k (pos n))) [
  | inl hit ↦ let h : pos n ≤ℤ pos 18446744073709551615 = (small k (pos n) hit).high in absurd (omega (arith, ints))
  | inr miss ↦ miss
]

deep : (k : Kind) (n : ℕ) → 2 ^ 64 ≤ n → is_within k (neg_ℤ (pos n)) ≡ false
deep k zero big = absurd (omega arith)
deep k (suc n) big = elim (cases_Bool (is_within k (negsuc n))) [
  | inl hit ↦ let h : negsuc 9223372036854775807 ≤ℤ negsuc n = (small k (negsuc n) hit).low in absurd (omega (arith, ints))
  | inr miss ↦ miss
]

-- a sign before digits: a number of 65 bits or more is no number of a kind
signed : (k : Kind) (sign : ℕ → ℤ) → ((n : ℕ) → 2 ^ 64 ≤ n → is_within k (sign n) ≡ false) → (o : Option ℕ)
    → and_then (option_map sign (below (2 ^ 64) o)) (in_range k) ≡ and_then (option_map sign o) (in_range k)
signed k sign none None = refl
signed k sign none (Some n) = elim (cases_Bool (nat_lt n (2 ^ 64))) [
  | inl under ↦ rw under refl
  | inr over ↦ let out = none n (ltb-false _ _ over) in rw (over, out) refl
]

-- the number of a kind, by its number of less than 65 bits
small-number : (k : Kind) (text : List ℕ) → and_then (small_integer text) (in_range k) ≡ read_number k text
small-number k [] = refl
small-number k (b ∷ bs) = elim (cases_Bool (nat_eq b 45)) [
  | inl minus ↦ rw minus (signed k (λ n. neg_ℤ (pos n)) (deep k) (read_digits bs))
  | inr other ↦ elim (cases_Bool (nat_eq b 43)) [
    | inl plus ↦ rw (other, plus) (signed k (λ n. pos n) (large k) (read_digits bs))
    | inr digit ↦ rw (other, digit) (signed k (λ n. pos n) (large k) (read_digits (b ∷ bs)))
  ]
]

pub number-is : (k : Kind) (text : List ℕ) (o : Option ℤ) (z : ℤ) → o ≡ small_integer text → o ≡ Some z → in_range k z ≡ read_number k text
number-is k text o z is some = ap (λ p. and_then p (in_range k)) (sym some ∙ is) ∙ small-number k text

pub number-none : (k : Kind) (text : List ℕ) (o : Option ℤ) → o ≡ small_integer text → o ≡ None → None ≡ read_number k text
number-none k text o is none = ap (λ p. and_then p (in_range k)) (sym none ∙ is) ∙ small-number k text

pub empty-test : (text : List ℕ) → nat_eq (length text) 0 ≡ bytes_equal text []
empty-test [] = refl
empty-test (b ∷ bs) = ne_eqb (length (b ∷ bs)) 0 (λ same. absurd (omega (arith, same)))

-- what is absent, by two tests
pub absent-by : (text hash : List ℕ) (empty : Bool) → empty ≡ nat_eq (length text) 0 → hash ≡ codes "#" → (empty || bytes_equal text hash) ≡ is_absent text
absent-by text hash empty is same =
    ap (λ b. b || bytes_equal text hash) (is ∙ empty-test text) ∙ ap (λ (l : List ℕ). bytes_equal text [] || bytes_equal text l) same

-- a text that is neither truth value
pub truth-none : (text yes_text no_text : List ℕ) → yes_text ≡ codes "true" → no_text ≡ codes "false" → bytes_equal text yes_text ≡ false → bytes_equal text no_text ≡ false → None ≡ read_truth text
truth-none text yes_text no_text is is' miss miss' =
    let a : bytes_equal text (codes "true") ≡ false = ap (bytes_equal text) (sym is) ∙ miss in
    let b : bytes_equal text (codes "false") ≡ false = ap (bytes_equal text) (sym is') ∙ miss' in
    rw (a, b) refl
