-- The same parameters, and parameters whose unused places hold `false`.
use Rattle.std.proofs.Common.{◌≡◌, ◌≢◌, ◌<◌, ◌≤◌, ◌+◌, ◌∷◌, [], ◌&&◌, ℕ, zero, suc, true, false, Bool, nat_le, take, drop, length, List, arith, refl, ap, sym, ◌∙◌, ◌++◌, ⊎_elim, ℤ, int_le, length-drop, take-append-drop}
use Rattle.std.proofs.lemmas.Grind.{common_steps}
use Rattle.std.proofs.lemmas.Int.{ints}
use Rattle.std.proofs.lemmas.Bool.{cases_eq}
use Rattle.std.proofs.lemmas.Bool.Decides.{nat_tests}
use Rattle.lola_value.specs.declared.value.TextId.{TextId}
use Rattle.lola_value.specs.declared.value.Value.{Value}
use Rattle.lola_value.specs.declared.value.Value.TheVariants as value
use Rattle.lola_value.specs.declared.value.Params.{Params}
use Rattle.lola_value.specs.Arithmetic.{bools_equal}
use Rattle.lola_value.specs.Kinds.{all_same, all_unused, is_unused, is_well_formed, same_params, values_same}

-- one place more is used
pub one_used : (n : ℕ) (first a b c d : Value) → n < 4 → (nat_le n 4 && all_unused (drop n (a ∷ b ∷ c ∷ d ∷ []))) ≡ true → (nat_le (n + 1) 4 && all_unused (drop (n + 1) (first ∷ a ∷ b ∷ c ∷ []))) ≡ true
one_used zero first a b c d few was = grind (arith, common_steps)
one_used (suc zero) first a b c d few was = grind (arith, common_steps)
one_used (suc (suc zero)) first a b c d few was = grind (arith, common_steps)
one_used (suc (suc (suc zero))) first a b c d few was = refl
one_used (suc (suc (suc (suc n)))) first a b c d few was = absurd (omega arith)

-- a test and one that fails
and_false : (b : Bool) → (b && false) ≡ false
and_false true = refl
and_false false = refl

-- lists of two lengths are not the same
other_lengths : (n m : ℕ) (xs ys : List Value) → n ≤ length xs → m ≤ length ys → n ≢ m → all_same (take n xs) (take m ys) ≡ false
other_lengths zero zero xs ys h e ne = absurd (ne refl)
other_lengths zero (suc m) xs [] h e ne = absurd (omega arith)
other_lengths zero (suc m) xs (y ∷ ys) h e ne = refl
other_lengths (suc n) m [] ys h e ne = absurd (omega arith)
other_lengths (suc n) zero (x ∷ xs) ys h e ne = refl
other_lengths (suc n) (suc m) (x ∷ xs) [] h e ne = absurd (omega arith)
other_lengths (suc n) (suc m) (x ∷ xs) (y ∷ ys) h e ne =
    rw (other_lengths n m xs ys (omega arith) (omega arith) (λ q. ne (ap suc q))) (and_false (values_same x y))

-- parameters of two counts are not the same
pub other_counts : (p q : Params) → p.count ≤ 4 → q.count ≤ 4 → p.count ≢ q.count → same_params p q ≡ false
other_counts p q h e ne =
    other_lengths p.count q.count (p.at0 ∷ p.at1 ∷ p.at2 ∷ p.at3 ∷ []) (q.at0 ∷ q.at1 ∷ q.at2 ∷ q.at3 ∷ []) h e ne

-- truth values that are the same are one
same_bools : (a b : Bool) → bools_equal a b ≡ true → a ≡ b
same_bools true true h = refl
same_bools true false h = cc
same_bools false true h = cc
same_bools false false h = refl

-- numbers that are no greater than each other are one
same_integers : (a b : ℤ) → (int_le a b && int_le b a) ≡ true → a ≡ b
same_integers a b h = grind (arith, ints)

-- values that are the same are one
pub same_values : (a b : Value) → values_same a b ≡ true → a ≡ b
same_values (value.Bool a) (value.Bool b) h = ap value.Bool (same_bools a b h)
same_values (value.Int a) (value.Int b) h = ap value.Int (same_integers a b h)
same_values (value.Text a) (value.Text b) h =
    let same : a.0 ≡ b.0 = grind (arith, nat_tests) in
    ap (λ n. let id : TextId = record { 0 = n } in value.Text id) same
same_values (value.Bool a) (value.Int b) h = cc
same_values (value.Bool a) (value.Text b) h = cc
same_values (value.Int a) (value.Bool b) h = cc
same_values (value.Int a) (value.Text b) h = cc
same_values (value.Text a) (value.Bool b) h = cc
same_values (value.Text a) (value.Int b) h = cc

-- lists that are the same are one
same_lists : (xs ys : List Value) → all_same xs ys ≡ true → xs ≡ ys
same_lists [] [] h = refl
same_lists [] (y ∷ ys) h = cc
same_lists (x ∷ xs) [] h = cc
same_lists (x ∷ xs) (y ∷ ys) h =
    ap (λ v. v ∷ xs) (same_values x y (grind (arith, common_steps))) ∙ ap (λ (l : List Value). y ∷ l) (same_lists xs ys (grind (arith, common_steps)))

-- places that are not used hold one value
unused_is : (v : Value) → is_unused v ≡ true → v ≡ value.Bool false
unused_is (value.Bool true) h = cc
unused_is (value.Bool false) h = refl
unused_is (value.Int z) h = cc
unused_is (value.Text id) h = cc

-- as many unused places are one list
unused_same : (xs ys : List Value) → length xs ≡ length ys → all_unused xs ≡ true → all_unused ys ≡ true → xs ≡ ys
unused_same [] [] e h k = refl
unused_same [] (y ∷ ys) e h k = absurd (omega arith)
unused_same (x ∷ xs) [] e h k = absurd (omega arith)
unused_same (x ∷ xs) (y ∷ ys) e h k =
    let first : x ≡ y = unused_is x (grind (arith, common_steps)) ∙ sym (unused_is y (grind (arith, common_steps))) in
    ap (λ v. v ∷ xs) first ∙ ap (λ (l : List Value). y ∷ l) (unused_same xs ys (omega arith) (grind (arith, common_steps)) (grind (arith, common_steps)))

-- the four places
abbrev pub places : Params → List Value
places p = p.at0 ∷ p.at1 ∷ p.at2 ∷ p.at3 ∷ []

-- parameters that are the same have one count
same_counts : (p q : Params) → p.count ≤ 4 → q.count ≤ 4 → same_params p q ≡ true → p.count ≡ q.count
same_counts p q h e same = ⊎_elim
    (λ is. is)
    (λ other. absurd (let no = other_counts p q h e other in cc))
    (cases_eq p.count q.count)

-- parameters with one count and the same places are one
same_parts : (p q : Params) → p.count ≡ q.count → places p ≡ places q → p ≡ q
same_parts p q n l =
    let a : p.at0 ≡ q.at0 = cc in
    let b : p.at1 ≡ q.at1 = cc in
    let c : p.at2 ≡ q.at2 = cc in
    let d : p.at3 ≡ q.at3 = cc in
    ap (λ x. let r : Params = record { count = x; at0 = p.at0; at1 = p.at1; at2 = p.at2; at3 = p.at3 } in r) n
    ∙ ap (λ x. let r : Params = record { count = q.count; at0 = x; at1 = p.at1; at2 = p.at2; at3 = p.at3 } in r) a
    ∙ ap (λ x. let r : Params = record { count = q.count; at0 = q.at0; at1 = x; at2 = p.at2; at3 = p.at3 } in r) b
    ∙ ap (λ x. let r : Params = record { count = q.count; at0 = q.at0; at1 = q.at1; at2 = x; at3 = p.at3 } in r) c
    ∙ ap (λ x. let r : Params = record { count = q.count; at0 = q.at0; at1 = q.at1; at2 = q.at2; at3 = x } in r) d

-- well-formed parameters that are the same are equal in all places, so that a comparison of the places tells them
pub same_well_formed : (p q : Params) → is_well_formed p ≡ true → is_well_formed q ≡ true → same_params p q ≡ true → p ≡ q
same_well_formed p q wp wq same =
    let few_p : p.count ≤ 4 = grind (arith, common_steps) in
    let few_q : q.count ≤ 4 = grind (arith, common_steps) in
    let unused_p : all_unused (drop p.count (places p)) ≡ true = grind (arith, common_steps) in
    let unused_q : all_unused (drop q.count (places q)) ≡ true = grind (arith, common_steps) in
    let count = same_counts p q few_p few_q same in
    let used : take p.count (places p) ≡ take q.count (places q) = same_lists _ _ same in
    let rest : drop p.count (places p) ≡ drop q.count (places q) = unused_same _ _ (omega (arith, length-drop p.count (places p), length-drop q.count (places q), count)) unused_p unused_q in
    same_parts p q count
    (sym (take-append-drop p.count (places p))
    ∙ ap (λ (l : List Value). l ++ drop p.count (places p)) used
    ∙ ap (λ (l : List Value). take q.count (places q) ++ l) rest
    ∙ take-append-drop q.count (places q))
