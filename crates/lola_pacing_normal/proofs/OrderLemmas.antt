-- The order of sets of inputs.
use Rattle.std.proofs.Common.{◌≡◌, refl, ap, sym, subst, ◌∙◌, ℕ, zero, suc, ◌+◌, ◌/◌, ◌%◌, ◌^◌, ◌<◌, ◌≤◌, ◌⊎◌, inl, inr, List, [], ◌∷◌, Bool, true, false, cond, nat_eq, MatchBool, w64, length, drop, get_or, add-zero, arith, length-drop}
use Rattle.std.proofs.lemmas.Bool.{cases_lt, eqb-true, eq-eqb}
use Rattle.std.specs.Int.{bit_at, trailing_zeros}
use Rattle.std.specs.Int.RustNames.{bit_xor}
use Rattle.std.proofs.lemmas.Nat.{xor_lt}
use Rattle.std.proofs.lemmas.Nat.Bits.{bit_at_xor, bit_at-lt, bit_at-zero, bit_at-trailing_zeros, same_from_bits, shr_and_one}
use Rattle.std.specs.Int.Bits.{bit_and}
use Rattle.std.proofs.lemmas.List.{get_or-drop, get_or_default}
use Rattle.std.specs.List.{filter, All, AllPairs}
use Rattle.lola_model.specs.Implication.{has_input, AreApart}
use Rattle.lola_model.specs.declared.pacing.InputSet.{InputSet}
use Rattle.lola_model.specs.InputOrder.{numbers_from, inputs_of, IsBefore, ComesBefore, HasLeastOther}
use Rattle.lola_pacing_normal.proofs.BitLemmas.{other_input}

-- a list stands not before itself, nor both before and behind another
pub strictly : (xs ys : List ℕ) → IsBefore xs ys → IsBefore ys xs → ⊥
strictly [] [] h g = h
strictly (x ∷ xs) [] h g = h
strictly [] (y ∷ ys) h g = g
strictly (x ∷ xs) (y ∷ ys) h g = go h g (strictly xs ys)
  where
    go : ((x < y) ⊎ ((x ≡ y) × IsBefore xs ys)) → ((y < x) ⊎ ((y ≡ x) × IsBefore ys xs)) → (IsBefore xs ys → IsBefore ys xs → ⊥) → ⊥
    go (inl a) (inl b) more = omega arith
    go (inl a) (inr b) more = omega (arith, b.0)
    go (inr a) (inl b) more = omega (arith, a.0)
    go (inr a) (inr b) more = more a.1 b.1

pub strictly_before : (s t : InputSet) → ComesBefore s t → ComesBefore t s → ⊥
strictly_before s t h g = strictly (inputs_of s) (inputs_of t) h.lists g.lists

-- numbers that pass tests which agree up to a number that only passes the first

-- a lower number in front of a list that may begin with a higher one
low_or_later : (b : Bool) (xs : List ℕ) (low first : ℕ) (ys : List ℕ) → low < first → (b ≡ false → IsBefore (low ∷ xs) ys) → IsBefore (low ∷ xs) (cond b (first ∷ ys) ys)
low_or_later true xs low first ys lt h = inl lt
low_or_later false xs low first ys lt h = h refl

-- a lower number in front of what passes a test above it
before_later : (q : ℕ → Bool) (xs : List ℕ) (low first count later : ℕ) → low < first → first ≤ later → later < first + count → q later ≡ true → IsBefore (low ∷ xs) (filter q (numbers_from first count))
before_later q xs low first zero later lt le within e = absurd (omega arith)
before_later q xs low first (suc count) later lt le within e =
    low_or_later (q first) xs low first (filter q (numbers_from (suc first) count)) lt
    (λ is.
    let differs : first ≡ later → ⊥ = λ same. let f : q first ≡ true = ap q same ∙ e in cc in
    before_later q xs low (suc first) count later (omega arith) (omega arith) (omega arith) e)

-- both lists go on alike
both_more : (b c : Bool) (x : ℕ) (xs ys : List ℕ) → b ≡ c → IsBefore xs ys → IsBefore (cond b (x ∷ xs) xs) (cond c (x ∷ ys) ys)
both_more true true x xs ys e h = inr (refl, h)
both_more false false x xs ys e h = h
both_more true false x xs ys e h = absurd (cc)
both_more false true x xs ys e h = absurd (cc)

-- the first list has a number that the second lacks, and the second goes on
first_more : (b c : Bool) (x : ℕ) (xs ys : List ℕ) → b ≡ true → c ≡ false → IsBefore (x ∷ xs) ys → IsBefore (cond b (x ∷ xs) xs) (cond c (x ∷ ys) ys)
first_more true false x xs ys e f h = h
first_more true true x xs ys e f h = absurd (cc)
first_more false c x xs ys e f h = absurd (cc)

before_by_tests : (p q : ℕ → Bool) (count first at later : ℕ) → first ≤ at → at < later → later < first + count → p at ≡ true → q at ≡ false → ((k : ℕ) → k < at → p k ≡ q k) → q later ≡ true
    → IsBefore (filter p (numbers_from first count)) (filter q (numbers_from first count))
before_by_tests p q zero first at later le lt within has lacks same e = absurd (omega arith)
before_by_tests p q (suc count) first at later le lt within has lacks same e =
    elim (cases_lt first at) as (λ w. IsBefore (filter p (numbers_from first (suc count))) (filter q (numbers_from first (suc count)))) [
      | inl below ↦
          both_more (p first) (q first) first (filter p (numbers_from (suc first) count)) (filter q (numbers_from (suc first) count)) (same first below)
          (before_by_tests p q count (suc first) at later (omega arith) lt (omega arith) has lacks same e)
      | inr above ↦
          let here : at ≡ first = omega arith in
          first_more (p first) (q first) first (filter p (numbers_from (suc first) count)) (filter q (numbers_from (suc first) count)) (ap p (sym here) ∙ has) (ap q (sym here) ∙ lacks)
          (before_later q (filter p (numbers_from (suc first) count)) first (suc first) count later (omega arith) (omega arith) (omega arith) e)
    ]

-- of two sets that stand apart, that which has the least input that only one of them has stands before
pub comes_before : (s t : InputSet) → t.0 < 2 ^ 64 → HasLeastOther s t → AreApart s t → ComesBefore s t
unfolding inputs_of
comes_before s t small h apart = record { lists = go (other_input 64 t.0 s.0 small (λ e. apart.1 (eq-eqb (bit_and t.0 s.0) t.0 e))) }
  where
    go : ((n : ℕ) × (n < 64) × (nat_eq (bit_at t.0 n) 1 ≡ true) × (nat_eq (bit_at s.0 n) 0 ≡ true)) → IsBefore (filter (has_input s.0) (numbers_from 0 64)) (filter (has_input t.0) (numbers_from 0 64))
    go w =
        let lack : bit_at s.0 w.0 ≡ 0 = eqb-true (bit_at s.0 w.0) 0 w.3 in
        let not_less : w.0 < h.input → ⊥ = λ lt. let f : has_input s.0 w.0 ≡ true = h.same w.0 lt ∙ w.2 in let g : bit_at s.0 w.0 ≡ 1 = eqb-true (bit_at s.0 w.0) 1 f in omega arith in
        let not_there : h.input ≡ w.0 → ⊥ = λ same. let f : has_input t.0 h.input ≡ true = ap (has_input t.0) same ∙ w.2 in let g : has_input t.0 h.input ≡ false = h.lacks in cc in
        before_by_tests (has_input s.0) (has_input t.0) 64 0 h.input w.0 (omega arith) (omega arith) (omega (arith, w.1)) h.has h.lacks h.same w.2

-- the order goes on from one to the next
pub least_other-trans : (s t u : InputSet) → HasLeastOther s t → HasLeastOther t u → HasLeastOther s u
least_other-trans s t u h g =
    elim (cases_lt h.input g.input) [
      | inl lt ↦ record {
        input = h.input;
        within = h.within;
        has = h.has;
        lacks = sym (g.same h.input lt) ∙ h.lacks;
        same = λ k l. h.same k l ∙ g.same k (omega arith);
      }
      | inr le ↦
          elim (cases_lt g.input h.input) [
            | inl lt ↦ record {
              input = g.input;
              within = g.within;
              has = h.same g.input lt ∙ g.has;
              lacks = g.lacks;
              same = λ k l. h.same k (omega arith) ∙ g.same k l;
            }
            | inr ge ↦
                let e : h.input ≡ g.input = omega arith in
                let no : has_input t.0 g.input ≡ false = ap (has_input t.0) (sym e) ∙ h.lacks in
                let yes : has_input t.0 g.input ≡ true = g.has in
                absurd (cc)
          ]
    ]

-- two sets that differ, as numbers: the lowest bit of those in which they differ

-- two bits whose sum is even are equal, and of two whose sum is odd one is 1
even_sum : (a b : ℕ) → a < 2 → b < 2 → (a + b) % 2 ≡ 0 → a ≡ b
even_sum zero zero la lb e = refl
even_sum zero (suc zero) la lb e = absurd (omega arith)
even_sum (suc zero) zero la lb e = absurd (omega arith)
even_sum (suc zero) (suc zero) la lb e = refl
even_sum a (suc (suc b)) la lb e = absurd (omega arith)
even_sum (suc (suc a)) b la lb e = absurd (omega arith)

odd_sum : (a b : ℕ) → a < 2 → b < 2 → (a + b) % 2 ≡ 1 → ((a ≡ 1) × (b ≡ 0)) ⊎ ((a ≡ 0) × (b ≡ 1))
odd_sum zero zero la lb e = absurd (omega arith)
odd_sum zero (suc zero) la lb e = inr (refl, refl)
odd_sum (suc zero) zero la lb e = inl (refl, refl)
odd_sum (suc zero) (suc zero) la lb e = absurd (omega arith)
odd_sum a (suc (suc b)) la lb e = absurd (omega arith)
odd_sum (suc (suc a)) b la lb e = absurd (omega arith)

same_bit : (a b n : ℕ) → bit_at (bit_xor a b) n ≡ 0 → bit_at a n ≡ bit_at b n
same_bit a b n e = even_sum (bit_at a n) (bit_at b n) (bit_at-lt a n) (bit_at-lt b n) (sym (bit_at_xor a b n) ∙ e)

pub some_difference : (s t : InputSet) → ¬ (s ≡ t) → 0 < bit_xor s.0 t.0
some_difference s t not = go (bit_xor s.0 t.0) refl
  where
    go : (x : ℕ) → bit_xor s.0 t.0 ≡ x → 0 < x
    go zero e =
        let same : s.0 ≡ t.0 = same_from_bits s.0 t.0 (λ n. same_bit s.0 t.0 n (ap (λ x. bit_at x n) e ∙ bit_at-zero n)) in
        absurd (not (ap (λ (x : ℕ). let r : InputSet = record { 0 = x } in r) same))
    go (suc x) e = omega arith

-- the number of that bit
abbrev lowest : InputSet → InputSet → ℕ
lowest s t = trailing_zeros w64 (bit_xor s.0 t.0)

pub lowest_within : (s t : InputSet) → ¬ (s ≡ t) → s.0 < 2 ^ 64 → t.0 < 2 ^ 64 → trailing_zeros w64 (bit_xor s.0 t.0) < 64
lowest_within s t not ls lt = (bit_at-trailing_zeros w64 (bit_xor s.0 t.0) (some_difference s t not) (xor_lt 64 s.0 t.0 ls lt)).0

-- a set that has an input, and one that lacks it, which agree below
least_other_from : (s t : InputSet) (n : ℕ) → n < 64 → bit_at s.0 n ≡ 1 → bit_at t.0 n ≡ 0 → ((k : ℕ) → k < n → bit_at s.0 k ≡ bit_at t.0 k) → HasLeastOther s t
least_other_from s t n within has lacks same = record {
  input = n;
  within = within;
  has = eq-eqb (bit_at s.0 n) 1 has;
  lacks = ap (λ b. nat_eq b 1) lacks;
  same = λ k l. ap (λ b. nat_eq b 1) (same k l);
}

pub least_other_by_lowest : (s t : InputSet) → ¬ (s ≡ t) → s.0 < 2 ^ 64 → t.0 < 2 ^ 64
    → MatchBool (nat_eq (bit_and (s.0 / 2 ^ trailing_zeros w64 (bit_xor s.0 t.0)) 1) 1) (HasLeastOther s t) (HasLeastOther t s)
least_other_by_lowest s t not ls lt =
    let low = bit_at-trailing_zeros w64 (bit_xor s.0 t.0) (some_difference s t not) (xor_lt 64 s.0 t.0 ls lt) in
    go low.0 (λ k l. same_bit s.0 t.0 k (low.2 k l)) (shr_and_one s.0 (lowest s t))
    (odd_sum (bit_at s.0 (lowest s t)) (bit_at t.0 (lowest s t)) (bit_at-lt s.0 (lowest s t)) (bit_at-lt t.0 (lowest s t)) (sym (bit_at_xor s.0 t.0 (lowest s t)) ∙ low.1))
  where
    go : lowest s t < 64 → ((k : ℕ) → k < lowest s t → bit_at s.0 k ≡ bit_at t.0 k) → bit_and (s.0 / 2 ^ lowest s t) 1 ≡ bit_at s.0 (lowest s t)
        → ((bit_at s.0 (lowest s t) ≡ 1) × (bit_at t.0 (lowest s t) ≡ 0)) ⊎ ((bit_at s.0 (lowest s t) ≡ 0) × (bit_at t.0 (lowest s t) ≡ 1))
        → MatchBool (nat_eq (bit_and (s.0 / 2 ^ lowest s t) 1) 1) (HasLeastOther s t) (HasLeastOther t s)
    go within same is (inl w) =
        let e : nat_eq (bit_and (s.0 / 2 ^ lowest s t) 1) 1 ≡ true = eq-eqb (bit_and (s.0 / 2 ^ lowest s t) 1) 1 (is ∙ w.0) in
        subst (λ b. MatchBool b (HasLeastOther s t) (HasLeastOther t s)) (sym e) (least_other_from s t (lowest s t) within w.0 w.1 same)
    go within same is (inr w) =
        let e : nat_eq (bit_and (s.0 / 2 ^ lowest s t) 1) 1 ≡ false = ap (λ x. nat_eq x 1) (is ∙ w.0) in
        subst (λ b. MatchBool b (HasLeastOther s t) (HasLeastOther t s)) (sym e) (least_other_from t s (lowest s t) within w.1 w.0 (λ k l. sym (same k l)))

-- a set before one of an ordered list is before those behind it
pub before_the_rest : (set : InputSet) (xs : List InputSet) (i : ℕ) (x : InputSet) → i < length xs → AllPairs HasLeastOther xs → HasLeastOther set (get_or xs i x) → All (HasLeastOther set) (drop i xs)
before_the_rest set xs i x within ordered h = λ k d lt. subst (HasLeastOther set) (sym (get_or-drop i xs k d)) (go k d (omega (arith, length-drop i xs, lt)))
  where
    first : (d : InputSet) → HasLeastOther set (get_or xs i d)
    first d = subst (HasLeastOther set) (get_or_default xs i x d within) h

    go : (k : ℕ) (d : InputSet) → i + k < length xs → HasLeastOther set (get_or xs (i + k) d)
    go zero d lt = subst (λ y. HasLeastOther set (get_or xs y d)) (sym (add-zero i)) (first d)
    go (suc k) d lt = least_other-trans set (get_or xs i d) (get_or xs (i + suc k) d) (first d) (ordered i (i + suc k) d (omega arith) lt)
