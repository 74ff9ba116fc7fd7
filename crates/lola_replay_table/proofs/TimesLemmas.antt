-- Values in the order of their times: one more, and those that a window does not reach.
use Rattle.std.proofs.Common.{◌≡◌, ◌∙◌, sym, ap, ℕ, zero, suc, ◌+◌, ◌≤◌, List, [], ◌∷◌, ◌++◌, Some, Bool, true, false, not, if◌then◌else◌, arith, drop, filter, map, nat_lt, slice_get, subst}
use Rattle.std.specs.List.{AllByRecursion}
use Rattle.std.proofs.lemmas.Bool.{le-ltb, ltb-false}
use Rattle.std.proofs.lemmas.List.{map-append}
use Rattle.std.proofs.lemmas.List.Elements.{filter-append}
use Rattle.lola_value.specs.declared.text.Field.{Field}
use Rattle.lola_model.specs.Windows.{is_within_window, values_within}
use Rattle.lola_replay_table.specs.Times.{AreInOrder, AreUpTo}

all-raised : (low high : ℕ) (vs : List (ℕ × Field)) → low ≤ high → AllByRecursion (λ v. v.0 ≤ low) vs → AllByRecursion (λ v. v.0 ≤ high) vs
all-raised low high [] le all = tt
all-raised low high (v ∷ vs) le all = ((let a = all.0 in omega (arith, a, le)), all-raised low high vs le all.1)

all-more : (P : ℕ × Field → Type 0) (vs : List (ℕ × Field)) (w : ℕ × Field) → AllByRecursion P vs → P w → AllByRecursion P (vs ++ w ∷ [])
all-more P [] w all is = (is, tt)
all-more P (v ∷ vs) w all is = (all.0, all-more P vs w all.1 is)

order-more : (newest time : ℕ) (value : Field) (vs : List (ℕ × Field)) → AreInOrder vs → AllByRecursion (λ v. v.0 ≤ newest) vs → newest ≤ time → AreInOrder (vs ++ (time, value) ∷ [])
order-more newest time value [] order all le = (tt, tt)
order-more newest time value (v ∷ vs) order all le =
    (all-more (λ w. v.0 ≤ w.0) vs (time, value) order.0 (let a = all.0 in omega (arith, a, le)), order-more newest time value vs order.1 all.1 le)

-- one more, whose time is not below the newest
pub up-to-more : (newest time : ℕ) (value : Field) (vs : List (ℕ × Field)) → AreUpTo newest vs → newest ≤ time → AreUpTo time (vs ++ (time, value) ∷ [])
up-to-more newest time value vs is le = record {
  in_order = order-more newest time value vs is.in_order is.most_is le;
  most_is = all-more (λ v. v.0 ≤ time) vs (time, value) (all-raised newest time vs le is.most_is) (omega arith);
}

-- the element at a place, and those behind it
pub drop-at : {A : Type 0} (xs : List A) (n : ℕ) (x : A) → slice_get xs n ≡ Some x → drop n xs ≡ x ∷ drop (n + 1) xs
drop-at [] n x at = absurd (cc at)
drop-at (y ∷ ys) zero x at = (let same : y ≡ x = cc at in ap (λ z. z ∷ ys) same)
drop-at (y ∷ ys) (suc n) x at = drop-at ys n x at ∙ (let next : suc (n + 1) ≡ suc n + 1 = omega arith in ap (λ k. x ∷ drop k (y ∷ ys)) next)

at-place : (P : ℕ × Field → Type 0) (vs : List (ℕ × Field)) (n : ℕ) (v : ℕ × Field) → AllByRecursion P vs → slice_get vs n ≡ Some v → P v
at-place P [] n v all at = absurd (cc at)
at-place P (w ∷ ws) zero v all at = (let same : w ≡ v = cc at in subst P same all.0)
at-place P (w ∷ ws) (suc n) v all at = at-place P ws n v all.1 at

-- where a value is not in the window, none before it is
pub none-before : (over time : ℕ) (vs : List (ℕ × Field)) (n : ℕ) (v : ℕ × Field) → AreInOrder vs → slice_get vs n ≡ Some v → nat_lt time (v.0 + over) ≡ false
    → filter (is_within_window over time) vs ≡ filter (is_within_window over time) (drop (suc n) vs)
none-before over time [] n v order at past = absurd (cc at)
none-before over time (w ∷ ws) zero v order at past =
    let same : w ≡ v = cc at in
    let miss : nat_lt time (w.0 + over) ≡ false = ap (λ (u : ℕ × Field). nat_lt time (u.0 + over)) same ∙ past in
    ap (λ b. if b then w ∷ filter (is_within_window over time) ws else filter (is_within_window over time) ws) miss
none-before over time (w ∷ ws) (suc n) v order at past =
    let low : w.0 ≤ v.0 = at-place (λ u. w.0 ≤ u.0) ws n v order.0 at in
    let far = ltb-false time (v.0 + over) past in
    let miss : nat_lt time (w.0 + over) ≡ false = le-ltb time (w.0 + over) (omega (arith, low, far)) in
    ap (λ b. if b then w ∷ filter (is_within_window over time) ws else filter (is_within_window over time) ws) miss ∙ none-before over time ws n v order.1 at past

-- what is in a window of values and of those behind them
pub within-append : (over time : ℕ) (xs ys : List (ℕ × Field)) → values_within over time (xs ++ ys) ≡ values_within over time xs ++ values_within over time ys
within-append over time xs ys =
    ap (map (λ v. v.1)) (filter-append (is_within_window over time) xs ys) ∙ map-append (λ v. v.1) (filter (is_within_window over time) xs) (filter (is_within_window over time) ys)

past-is : (b c : Bool) → not b ≡ true → b ≡ c → c ≡ false
past-is true c e same = absurd (cc e)
past-is false c e same = sym same

-- where a value is not in the window, all that is in it is behind it
pub within-past : (over time : ℕ) (vs : List (ℕ × Field)) (n : ℕ) (v : ℕ × Field) → AreInOrder vs → slice_get vs n ≡ Some v
    → (inside : Bool) → inside ≡ nat_lt time (v.0 + over) → not inside ≡ true
    → values_within over time vs ≡ values_within over time (drop (n + 1) vs)
within-past over time vs n v order at inside is past =
    let next : suc n ≡ n + 1 = omega arith in
    ap (map (λ v. v.1)) (none-before over time vs n v order at (past-is inside (nat_lt time (v.0 + over)) past is))
    ∙ ap (λ k. values_within over time (drop k vs)) next
