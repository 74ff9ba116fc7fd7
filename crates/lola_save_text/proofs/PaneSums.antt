-- The panes of values: each value lies in one pane, so the panes together have no more values than there are.
use Rattle.std.proofs.Common.{◌≡◌, ℕ, zero, suc, ◌+◌, ◌-◌, ◌*◌, ◌<◌, ◌≤◌, List, [], ◌∷◌, length, map, refl, arith, Bool, true, false, nat_eq, if◌then◌else◌}
use Rattle.std.specs.Prelude.{filter}
use Rattle.std.specs.List.{sum_by}
use Rattle.std.proofs.lemmas.Bool.{eqb-true, ne_eqb}
use Rattle.std.proofs.lemmas.List.Sums.{sum_by-cons}
use Rattle.lola_model.specs.Named.{counted}
use Rattle.lola_value.specs.declared.text.Field.{Field}
use Rattle.lola_save_text.specs.PaneFolds.{pane_number, is_in_pane, values_in_pane}

-- sums

-- no term is greater than another
pub sum-le : {A B : Type 0} (f : B → ℕ) (g : A → B) (h : A → ℕ) (xs : List A) → ((x : A) → f (g x) ≤ h x) → sum_by f (map g xs) ≤ sum_by h xs
sum-le f g h [] le = omega arith
sum-le f g h (x ∷ xs) le =
    let on = sum-le f g h xs le in
    let one = le x in
    rw (sum_by-cons f (g x) (map g xs), sum_by-cons h x xs) (omega (arith, on, one))

-- each term so many times greater
pub sum-times : {A : Type 0} (h : A → ℕ) (c : ℕ) (xs : List A) → sum_by (λ x. h x * c) xs ≡ sum_by h xs * c
sum-times h c [] = omega arith
sum-times h c (x ∷ xs) =
    let on = sum-times h c xs in
    rw (sum_by-cons (λ x. h x * c) x xs, sum_by-cons h x xs) (omega (arith, on))

-- 1 for true
abbrev one_if : Bool → ℕ
one_if b = if b then 1 else 0

-- how often a number stands among so many numbers in order

hits-none : (x from n : ℕ) → x < from → sum_by (λ m. one_if (nat_eq x m)) (counted from n) ≡ 0
hits-none x from zero h = refl
hits-none x from (suc n) h =
    let on = hits-none x (from + 1) n (omega arith) in
    let no : nat_eq x from ≡ false = ne_eqb x from (λ e. absurd (omega arith)) in
    rw (sum_by-cons (λ m. one_if (nat_eq x m)) from (counted (from + 1) n)) (rw no (omega (arith, on)))

pub hits-one : (x from n : ℕ) → sum_by (λ m. one_if (nat_eq x m)) (counted from n) ≤ 1
hits-one x from zero = omega arith
hits-one x from (suc n) = rw (sum_by-cons (λ m. one_if (nat_eq x m)) from (counted (from + 1) n)) (by (nat_eq x from) refl (hits-one x (from + 1) n))
  where
    by : (b : Bool) → nat_eq x from ≡ b → sum_by (λ m. one_if (nat_eq x m)) (counted (from + 1) n) ≤ 1
        → one_if b + sum_by (λ m. one_if (nat_eq x m)) (counted (from + 1) n) ≤ 1
    by true e on = let none = hits-none x (from + 1) n (let q = eqb-true x from e in omega arith) in omega (arith, none)
    by false e on = omega (arith, on)

module _ (start pane : ℕ) where
  -- how many values lie in a pane
  abbrev pub count_in : List (ℕ × Field) → ℕ → ℕ
  count_in vs m = length (values_in_pane start pane vs m)

  count-more : (v : ℕ × Field) (vs : List (ℕ × Field)) (m : ℕ) → count_in (v ∷ vs) m ≡ one_if (is_in_pane start pane m v) + count_in vs m
  count-more v vs m = by (is_in_pane start pane m v)
    where
      by : (b : Bool) → length (map (λ (x : ℕ × Field). x.1) (if b then v ∷ filter (is_in_pane start pane m) vs else filter (is_in_pane start pane m) vs)) ≡ one_if b + count_in vs m
      by true = omega arith
      by false = omega arith

  -- one more value is counted once for each pane that it lies in
  sum-more : (v : ℕ × Field) (vs : List (ℕ × Field)) (ms : List ℕ)
      → sum_by (count_in (v ∷ vs)) ms ≡ sum_by (λ m. one_if (is_in_pane start pane m v)) ms + sum_by (count_in vs) ms
  sum-more v vs [] = refl
  sum-more v vs (m ∷ ms) =
      let on = sum-more v vs ms in
      let here = count-more v vs m in
      rw (sum_by-cons (count_in (v ∷ vs)) m ms, sum_by-cons (λ m. one_if (is_in_pane start pane m v)) m ms, sum_by-cons (count_in vs) m ms) (omega (arith, on, here))

  sum-none : (ms : List ℕ) → sum_by (count_in []) ms ≡ 0
  sum-none [] = refl
  sum-none (m ∷ ms) = let on = sum-none ms in rw (sum_by-cons (count_in []) m ms) (omega (arith, on))

  -- so panes in order have no more values than there are
  pub sum-counts : (vs : List (ℕ × Field)) (from n : ℕ) → sum_by (count_in vs) (counted from n) ≤ length vs
  sum-counts [] from n = rw (sum-none (counted from n)) (omega arith)
  sum-counts (v ∷ vs) from n =
      let more = sum-more v vs (counted from n) in
      let one = hits-one (pane_number pane (v.0 - start)) from n in
      let on = sum-counts vs from n in
      omega (arith, more, one, on)
