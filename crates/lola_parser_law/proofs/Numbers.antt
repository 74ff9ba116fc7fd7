-- Numbers as digits, and back.
use Rattle.std.specs.Bool.{if◌then◌else◌}
use Rattle.std.proofs.Common.{◌≡◌, ℕ, suc, ◌+◌, ◌-◌, ◌*◌, ◌/◌, ◌%◌, ◌^◌, ◌≤◌, ◌<◌, ◌⊎◌, inl, inr, min, Bool, true, false, List, [], ◌∷◌, ◌++◌, length, refl, sym, ap, ◌∙◌, append_assoc, append-nil, arith, eqb-true}
use Rattle.std.specs.Prelude.{fold, ◌==◌}
use Rattle.std.specs.List.{AllPass}
use Rattle.std.specs.Char.{is_ascii_digit}
use Rattle.std.specs.Fmt.{decimal}
use Rattle.std.proofs.lemmas.Bool.Decides.{nat_tests}
use Rattle.std.proofs.lemmas.Fmt.{decimal_digit, decimal_step_wide, decimal_by_steps_wide, length-decimal-le_wide}
use Rattle.std.proofs.lemmas.List.Elements.{All-head, All-tail}
use Rattle.std.proofs.lemmas.List.Sums.{fold-append}
use Rattle.std.proofs.lemmas.Grind.{pow_more}
use Rattle.std.proofs.Math.Nat.{pow-le-pow_right}
use Rattle.lola_parser_grammar.specs.Literals.{greatest, with_digit, number_of}
use Rattle.lola_parser_print.specs.Print.{zeros, padded}
use Rattle.lola_parser_law.specs.Erased.{IntegerReads}

-- ---- one digit more

digit_bounds : (b : ℕ) → is_ascii_digit b ≡ true → (48 ≤ b) × (b ≤ 57)
digit_bounds b h = grind (arith, nat_tests)

digit_is : (d : ℕ) → d < 10 → is_ascii_digit (48 + d) ≡ true
digit_is d h = grind (arith, nat_tests)

capped : (n d g : ℕ) → n * 10 + d ≤ g → min (min (n * 10) g + d) g ≡ n * 10 + d
capped n d g h = omega (arith, h)

with_digit_is : (n b : ℕ) → is_ascii_digit b ≡ true → n * 10 + (b - 48) ≤ greatest → with_digit n b ≡ n * 10 + (b - 48)
with_digit_is n b h small = ap (λ x. if x then min (min (n * 10) greatest + (b - 48)) greatest else n) h ∙ capped n (b - 48) greatest small

-- ---- the number that digits spell

abbrev pub value : ℕ → List ℕ → ℕ
value n [] = n
value n (b ∷ ds) = value (n * 10 + (b - 48)) ds

pub value_grows : (n : ℕ) (ds : List ℕ) → n ≤ value n ds
value_grows n [] = omega arith
value_grows n (b ∷ ds) = omega (arith, value_grows (n * 10 + (b - 48)) ds)

pub fold_value : (n : ℕ) (ds : List ℕ) → AllPass is_ascii_digit ds → value n ds ≤ greatest → fold with_digit n ds ≡ value n ds
fold_value n [] all small = refl
fold_value n (b ∷ ds) all small =
    let m = n * 10 + (b - 48) in
    let few : m ≤ greatest = omega (arith, value_grows m ds, small) in
    ap (λ k. fold with_digit k ds) (with_digit_is n b (All-head (λ x. is_ascii_digit x ≡ true) b ds all) few)
    ∙ fold_value m ds (All-tail (λ x. is_ascii_digit x ≡ true) b ds all) small

-- ---- a number that is printed

abbrev Back : ℕ → List ℕ → Type 0
Back n ds = n ≤ greatest → number_of ds ≡ n

one_back : (n : ℕ) → n < 10 → Back n ((48 + n) ∷ [])
one_back n h small =
    let sum : 0 * 10 + (48 + n - 48) ≡ n = omega arith in
    with_digit_is 0 (48 + n) (digit_is n h) (omega (arith, small)) ∙ sum

more_back : (n : ℕ) (ds : List ℕ) → 10 ≤ n → Back (n / 10) ds → Back n (ds ++ ((48 + n % 10) ∷ []))
more_back n ds h back small =
    let front : fold with_digit 0 ds ≡ n / 10 = back (omega (arith, small)) in
    let sum : n / 10 * 10 + (48 + n % 10 - 48) ≡ n = omega arith in
    fold-append with_digit 0 ds ((48 + n % 10) ∷ []) ∙ ap (λ k. with_digit k (48 + n % 10)) front
    ∙ with_digit_is (n / 10) (48 + n % 10) (digit_is (n % 10) (omega arith)) (omega (arith, sum, small)) ∙ sum

pub number_read : (n : ℕ) → n ≤ greatest → IntegerReads n
number_read n small = decimal_by_steps_wide Back one_back more_back n (omega (arith, small)) small

-- ---- digits that are read

value_after : (n : ℕ) (ds : List ℕ) → 0 < n → AllPass is_ascii_digit ds → value n ds < 10 ^ 64 → decimal (value n ds) ≡ decimal n ++ ds
value_after n [] some all small = sym (append-nil (decimal n))
value_after n (b ∷ ds) some all small =
    let m : ℕ = n * 10 + (b - 48) in
    let bounds = digit_bounds b (All-head (λ x. is_ascii_digit x ≡ true) b ds all) in
    let front : m / 10 ≡ n = omega (arith, bounds) in
    let end : 48 + m % 10 ≡ b = omega (arith, bounds) in
    value_after m ds (omega arith) (All-tail (λ x. is_ascii_digit x ≡ true) b ds all) small
    ∙ ap (λ x. x ++ ds) (decimal_step_wide m (omega arith) (omega (arith, value_grows m ds, small)) ∙ (λ i. decimal (front i) ++ (end i ∷ [])))
    ∙ append_assoc (decimal n) (b ∷ []) ds

-- digits of which the first is no zero
value_led : (b : ℕ) (ds : List ℕ) → AllPass is_ascii_digit (b ∷ ds) → 48 < b → value 0 (b ∷ ds) < 10 ^ 64 → decimal (value 0 (b ∷ ds)) ≡ b ∷ ds
value_led b ds all other small =
    let bounds = digit_bounds b (All-head (λ x. is_ascii_digit x ≡ true) b ds all) in
    let is : 48 + (0 * 10 + (b - 48)) ≡ b = omega (arith, other) in
    value_after (0 * 10 + (b - 48)) ds (omega (arith, other)) (All-tail (λ x. is_ascii_digit x ≡ true) b ds all) small
    ∙ ap (λ x. x ++ ds) (decimal_digit (0 * 10 + (b - 48)) (omega (arith, bounds)) ∙ ap (λ x. x ∷ []) is)

-- a number has no more digits than it was spelled with
abbrev Below : ℕ → List ℕ → Type 0
Below n ds = suc (value n ds) ≤ suc n * 10 ^ length ds

value_below : (n : ℕ) (ds : List ℕ) → AllPass is_ascii_digit ds → Below n ds
value_below n [] all = omega arith
value_below n (b ∷ ds) all =
    let m = n * 10 + (b - 48) in
    let bounds = digit_bounds b (All-head (λ x. is_ascii_digit x ≡ true) b ds all) in
    let below : suc (value m ds) ≤ suc m * 10 ^ length ds = value_below m ds (All-tail (λ x. is_ascii_digit x ≡ true) b ds all) in
    let up : suc m * 10 ^ length ds ≤ suc n * 10 * 10 ^ length ds = times (suc m) (suc n * 10) (10 ^ length ds) (omega (arith, bounds)) in
    let power : 10 ^ suc (length ds) ≡ 10 ^ length ds * 10 = ap (λ (k : ℕ). 10 ^ k) (omega arith) ∙ pow_more 10 (length ds) in
    rw power (omega (arith, below, up))
  where
    times : (x y p : ℕ) → x ≤ y → x * p ≤ y * p
    times x y p h = grind arith

pub value_small : (ds : List ℕ) → AllPass is_ascii_digit ds → value 0 ds < 10 ^ length ds
value_small ds all = omega (arith, value_below 0 ds all)

pub power_up : (i j : ℕ) → i ≤ j → 10 ^ i ≤ 10 ^ j
power_up i j h = pow-le-pow_right (omega arith) h

-- zeros in front, where there are fewer digits
padded_more : (count : ℕ) (ds : List ℕ) → length ds ≤ count → padded (suc count) ds ≡ 48 ∷ padded count ds
padded_more count ds h =
    let less : suc count - length ds ≡ suc (count - length ds) = omega (arith, h) in
    ap (λ n. zeros n ++ ds) less

padded_none : (count : ℕ) (ds : List ℕ) → count ≡ length ds → padded count ds ≡ ds
padded_none count ds h =
    let none : count - length ds ≡ 0 = omega (arith, h) in
    ap (λ n. zeros n ++ ds) none

led : (b : ℕ) → 48 ≤ b → (b ≡ 48) ⊎ (48 < b)
led b h = by (b == 48) refl
  where
    by : (x : Bool) → (b == 48) ≡ x → (b ≡ 48) ⊎ (48 < b)
    by true e = inl (eqb-true b 48 e)
    by false e = inr (grind (arith, nat_tests))

-- Digits, by the number that they spell and how many they are.
pub digits_back : (ds : List ℕ) → AllPass is_ascii_digit ds → 0 < length ds → length ds ≤ 64 → padded (length ds) (decimal (value 0 ds)) ≡ ds
digits_back [] all some few = absurd (omega (arith, some))
digits_back (b ∷ []) all some few =
    let bounds = digit_bounds b (All-head (λ x. is_ascii_digit x ≡ true) b [] all) in
    let is : decimal (0 * 10 + (b - 48)) ≡ b ∷ [] = decimal_digit (0 * 10 + (b - 48)) (omega (arith, bounds)) ∙ ap (λ x. x ∷ []) (omega (arith, bounds)) in
    ap (padded 1) is ∙ padded_none 1 (b ∷ []) refl
digits_back (b ∷ c ∷ ds) all some few =
    let rest : AllPass is_ascii_digit (c ∷ ds) = All-tail (λ x. is_ascii_digit x ≡ true) b (c ∷ ds) all in
    let bounds = digit_bounds b (All-head (λ x. is_ascii_digit x ≡ true) b (c ∷ ds) all) in
    elim (led b bounds.0) [
      | inl e ↦
          let small = value_small (c ∷ ds) rest in
          let wide : value 0 (c ∷ ds) < 10 ^ 64 = omega (arith, small, power_up (length (c ∷ ds)) 64 (omega (arith, few))) in
          let short : length (decimal (value 0 (c ∷ ds))) ≤ length (c ∷ ds) = length-decimal-le_wide (length (c ∷ ds)) (value 0 (c ∷ ds)) (omega arith) small wide in
          let zero_in : 0 * 10 + (b - 48) ≡ 0 = omega (arith, e) in
          ap (λ n. padded (length (b ∷ c ∷ ds)) (decimal (value n (c ∷ ds)))) zero_in
          ∙ padded_more (length (c ∷ ds)) (decimal (value 0 (c ∷ ds))) short ∙ ap (λ l. 48 ∷ l) (digits_back (c ∷ ds) rest (omega arith) (omega (arith, few)))
          ∙ ap (λ x. x ∷ c ∷ ds) (sym e)
      | inr other ↦
          let small = value_small (b ∷ c ∷ ds) all in
          let wide : value 0 (b ∷ c ∷ ds) < 10 ^ 64 = omega (arith, small, power_up (length (b ∷ c ∷ ds)) 64 few) in
          let is = value_led b (c ∷ ds) all other wide in
          ap (padded (length (b ∷ c ∷ ds))) is ∙ padded_none (length (b ∷ c ∷ ds)) (b ∷ c ∷ ds) refl
    ]
