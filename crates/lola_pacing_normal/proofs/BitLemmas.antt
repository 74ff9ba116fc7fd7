-- Sets of inputs as numbers: what one has all of another means for each input.
use Rattle.std.proofs.Common.{◌≡◌, refl, ap, sym, ◌∙◌, ℕ, zero, suc, ◌^◌, ◌<◌, ◌≤◌, min, max, ◌⊎◌, inl, inr, Bool, true, false, ◌&&◌, nat_eq, arith}
use Rattle.std.proofs.lemmas.Bool.{cases_lt, eq-eqb, and_parts}
use Rattle.std.proofs.lemmas.Nat.{and_le_r}
use Rattle.std.specs.Int.Bits.{bit_and}
use Rattle.std.specs.Int.RustNames.{bit_or}
use Rattle.std.specs.Int.{bit_at}
use Rattle.std.proofs.lemmas.Nat.Bits.{bit_at_and, bit_at_or, bit_at-lt, bit_at_above, same_from_bits}

-- a set within another has no input that the other lacks
pub within_has : (a x n : ℕ) → bit_and a x ≡ a → bit_at a n ≡ 1 → bit_at x n ≡ 1
within_has a x n h g =
    let e : bit_at (bit_and a x) n ≡ min (bit_at a n) (bit_at x n) = bit_at_and a x n in
    let f : bit_at (bit_and a x) n ≡ bit_at a n = ap (λ y. bit_at y n) h in
    let low : bit_at x n < 2 = bit_at-lt x n in
    omega arith

-- of a bit that brings another, the least of both is the first
least_bit : (a b : ℕ) → a < 2 → (a ≡ 1 → b ≡ 1) → min a b ≡ a
least_bit zero b low h = omega arith
least_bit (suc zero) b low h = let e : b ≡ 1 = h refl in omega arith
least_bit (suc (suc a)) b low h = absurd (omega arith)

-- and a set that has no input that the other lacks is within it
pub within_from : (a x : ℕ) → ((n : ℕ) → bit_at a n ≡ 1 → bit_at x n ≡ 1) → bit_and a x ≡ a
within_from a x h = same_from_bits (bit_and a x) a (λ n. bit_at_and a x n ∙ least_bit (bit_at a n) (bit_at x n) (bit_at-lt a n) (h n))

-- of two bits of which one is 1, each brings what follows of both
one_of_bits : (P : Type 0) (a b : ℕ) → max a b ≡ 1 → a < 2 → b < 2 → (a ≡ 1 → P) → (b ≡ 1 → P) → P
one_of_bits P a zero e la lb f g = f (omega arith)
one_of_bits P a (suc zero) e la lb f g = g refl
one_of_bits P a (suc (suc b)) e la lb f g = absurd (omega arith)

-- a union is within a set where both are
pub union_within : (a b x : ℕ) → bit_and a x ≡ a → bit_and b x ≡ b → bit_and (bit_or a b) x ≡ bit_or a b
union_within a b x h g = within_from (bit_or a b) x (λ n e.
    one_of_bits (bit_at x n ≡ 1) (bit_at a n) (bit_at b n) (sym (bit_at_or a b n) ∙ e) (bit_at-lt a n) (bit_at-lt b n) (within_has a x n h) (within_has b x n g))

-- and only there
pub within_by_union : (a b x : ℕ) → bit_and (bit_or a b) x ≡ bit_or a b → (bit_and a x ≡ a) × (bit_and b x ≡ b)
within_by_union a b x h = (
  within_from a x (λ n e.
      let o : bit_at (bit_or a b) n ≡ max (bit_at a n) (bit_at b n) = bit_at_or a b n in
      let low : bit_at b n < 2 = bit_at-lt b n in
      within_has (bit_or a b) x n h (omega arith)),
  within_from b x (λ n e.
      let o : bit_at (bit_or a b) n ≡ max (bit_at a n) (bit_at b n) = bit_at_or a b n in
      let low : bit_at a n < 2 = bit_at-lt a n in
      within_has (bit_or a b) x n h (omega arith)),
)

-- a set within another is no greater number
pub within_le : (a x : ℕ) → bit_and a x ≡ a → a ≤ x
within_le a x h = let le : bit_and a x ≤ x = and_le_r a x in omega arith

-- a number below a limit that passes a test, or none does
pub passing_below : (p : ℕ → Bool) (limit : ℕ) → ((k : ℕ) × (k < limit) × (p k ≡ true)) ⊎ ((k : ℕ) → k < limit → p k ≡ false)
passing_below p zero = inr (λ k lt. absurd (omega arith))
passing_below p (suc n) = go (p n) refl (passing_below p n)
  where
    last : p n ≡ false → ((k : ℕ) → k < n → p k ≡ false) → (k : ℕ) → k < suc n → p k ≡ false
    last e none k lt = elim (cases_lt k n) [ inl below ↦ none k below | inr above ↦ let same : k ≡ n = omega arith in ap p same ∙ e ]

    go : (b : Bool) → p n ≡ b → ((k : ℕ) × (k < n) × (p k ≡ true)) ⊎ ((k : ℕ) → k < n → p k ≡ false) → ((k : ℕ) × (k < suc n) × (p k ≡ true)) ⊎ ((k : ℕ) → k < suc n → p k ≡ false)
    go true e h = inl (n, omega arith, e)
    go false e (inl w) = inl (w.0, omega (arith, w.1), w.2)
    go false e (inr none) = inr (last e none)

-- a bit that is not 0
one_bit : (b : ℕ) → b < 2 → ¬ (b ≡ 0) → b ≡ 1
one_bit zero low h = absurd (h refl)
one_bit (suc zero) low h = refl
one_bit (suc (suc b)) low h = absurd (omega arith)

-- both parts of a test that holds

-- a test whose first part holds and that fails
pub and_second : (a b : Bool) → a ≡ true → (a && b) ≡ false → b ≡ false
and_second true b h g = g
and_second false b h g = absurd (cc)

-- a set of few inputs that is not within another has an input that the other lacks
pub other_input : (limit a x : ℕ) → a < 2 ^ limit → ¬ (bit_and a x ≡ a) → (n : ℕ) × (n < limit) × (nat_eq (bit_at a n) 1 ≡ true) × (nat_eq (bit_at x n) 0 ≡ true)
other_input limit a x small not = go (passing_below (λ n. nat_eq (bit_at a n) 1 && nat_eq (bit_at x n) 0) limit)
  where
    within : ((k : ℕ) → k < limit → (nat_eq (bit_at a k) 1 && nat_eq (bit_at x k) 0) ≡ false) → (n : ℕ) → bit_at a n ≡ 1 → bit_at x n ≡ 1
    within none n e =
        elim (cases_lt n limit) [
          | inl lt ↦
              let no : nat_eq (bit_at x n) 0 ≡ false = and_second (nat_eq (bit_at a n) 1) (nat_eq (bit_at x n) 0) (eq-eqb (bit_at a n) 1 e) (none n lt) in
              let low : bit_at x n < 2 = bit_at-lt x n in
              one_bit (bit_at x n) low (λ z. let yes : nat_eq (bit_at x n) 0 ≡ true = eq-eqb (bit_at x n) 0 z in cc)
          | inr le ↦ let high : bit_at a n ≡ 0 = bit_at_above a limit n small le in absurd (omega arith)
        ]

    go : ((k : ℕ) × (k < limit) × ((nat_eq (bit_at a k) 1 && nat_eq (bit_at x k) 0) ≡ true)) ⊎ ((k : ℕ) → k < limit → (nat_eq (bit_at a k) 1 && nat_eq (bit_at x k) 0) ≡ false)
        → (n : ℕ) × (n < limit) × (nat_eq (bit_at a n) 1 ≡ true) × (nat_eq (bit_at x n) 0 ≡ true)
    go (inl w) = let p = and_parts (nat_eq (bit_at a w.0) 1) (nat_eq (bit_at x w.0) 0) w.2 in (w.0, w.1, p.0, p.1)
    go (inr none) = absurd (not (within_from a x (within none)))
