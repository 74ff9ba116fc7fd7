-- Lemmas on totals and extremes.
use Rattle.std.proofs.Common.{◌≡◌, List, [], ◌∷◌, ◌++◌, refl, ap, sym, ◌∙◌, arith, Option, Some, None, ℤ, ◌+ℤ◌, int_lt, true, false}
use Rattle.std.proofs.lemmas.Int.{ints}
use Rattle.std.proofs.Math.IntN.{+ℤ_idl, +ℤ_assoc}
use Rattle.lola_model.specs.declared.spec.Agg.{Agg}
use Rattle.lola_model.specs.declared.spec.Agg.TheVariants as agg
use Rattle.lola_model.specs.Windows.{total, lesser, greater, least_of, greatest_of}
use Rattle.lola_panes.specs.Weights.{better, is_better, best_of, best_after}

pub total-append : (xs ys : List ℤ) → total (xs ++ ys) ≡ total xs +ℤ total ys
total-append [] ys = sym (+ℤ_idl (total ys))
total-append (x ∷ xs) ys = ap (λ z. x +ℤ z) (total-append xs ys) ∙ sym (+ℤ_assoc x (total xs) (total ys))

lesser_assoc : (a b c : ℤ) → lesser a (lesser b c) ≡ lesser (lesser a b) c
lesser_assoc a b c = grind (arith, ints)

greater_assoc : (a b c : ℤ) → greater a (greater b c) ≡ greater (greater a b) c
greater_assoc a b c = grind (arith, ints)

pub better_assoc : (how : Agg) (a b c : ℤ) → better how a (better how b c) ≡ better how (better how a b) c
better_assoc agg.Count a b c = lesser_assoc a b c
better_assoc agg.Sum a b c = lesser_assoc a b c
better_assoc agg.Min a b c = lesser_assoc a b c
better_assoc agg.Max a b c = greater_assoc a b c
better_assoc agg.Avg a b c = lesser_assoc a b c
better_assoc agg.Forall a b c = lesser_assoc a b c
better_assoc agg.Exists a b c = lesser_assoc a b c

pub best_after_assoc : (how : Agg) (a b : ℤ) (o : Option ℤ) → better how a (best_after how b o) ≡ best_after how (better how a b) o
best_after_assoc how a b None = refl
best_after_assoc how a b (Some c) = better_assoc how a b c

-- the best of some numbers, if there are any, and one more
abbrev pub best_with : Agg → Option ℤ → ℤ → Option ℤ
best_with how None z = Some z
best_with how (Some b) z = Some (better how b z)

pub best_with_after : (how : Agg) (a : ℤ) (o : Option ℤ) (z : ℤ) → best_with how (Some (best_after how a o)) z ≡ Some (best_after how a (best_with how o z))
best_with_after how a None z = refl
best_with_after how a (Some b) z = ap Some (sym (better_assoc how a b z))

pub best-more : (how : Agg) (xs : List ℤ) (z : ℤ) → best_of how (xs ++ z ∷ []) ≡ best_with how (best_of how xs) z
best-more how [] z = refl
best-more how (x ∷ xs) z = ap (λ o. Some (best_after how x o)) (best-more how xs z) ∙ sym (best_with_after how x (best_of how xs) z)

-- of some numbers behind others
pub best-append : (how : Agg) (xs ys : List ℤ) (z : ℤ) → best_of how ys ≡ Some z → best_of how (xs ++ ys) ≡ best_with how (best_of how xs) z
best-append how [] ys z e = e
best-append how (x ∷ xs) ys z e = ap (λ o. Some (best_after how x o)) (best-append how xs ys z e) ∙ sym (best_with_after how x (best_of how xs) z)

-- one of two numbers is better than the other

worse_is_better-below : (a z : ℤ) → int_lt a z ≡ false → lesser a z ≡ z
worse_is_better-below a z e = grind (arith, ints)

worse_is_better-above : (a z : ℤ) → int_lt z a ≡ false → greater a z ≡ z
worse_is_better-above a z e = grind (arith, ints)

pub worse_is_better : (how : Agg) (a z : ℤ) → is_better how a z ≡ false → better how a z ≡ z
worse_is_better agg.Count a z e = worse_is_better-below a z e
worse_is_better agg.Sum a z e = worse_is_better-below a z e
worse_is_better agg.Min a z e = worse_is_better-below a z e
worse_is_better agg.Max a z e = worse_is_better-above a z e
worse_is_better agg.Avg a z e = worse_is_better-below a z e
worse_is_better agg.Forall a z e = worse_is_better-below a z e
worse_is_better agg.Exists a z e = worse_is_better-below a z e

better_is_better-below : (a z : ℤ) → int_lt a z ≡ true → lesser a z ≡ a
better_is_better-below a z e = grind (arith, ints)

better_is_better-above : (a z : ℤ) → int_lt z a ≡ true → greater a z ≡ a
better_is_better-above a z e = grind (arith, ints)

pub better_is_better : (how : Agg) (a z : ℤ) → is_better how a z ≡ true → better how a z ≡ a
better_is_better agg.Count a z e = better_is_better-below a z e
better_is_better agg.Sum a z e = better_is_better-below a z e
better_is_better agg.Min a z e = better_is_better-below a z e
better_is_better agg.Max a z e = better_is_better-above a z e
better_is_better agg.Avg a z e = better_is_better-below a z e
better_is_better agg.Forall a z e = better_is_better-below a z e
better_is_better agg.Exists a z e = better_is_better-below a z e

is_better_trans-below : (a b z : ℤ) → int_lt a b ≡ true → int_lt b z ≡ true → int_lt a z ≡ true
is_better_trans-below a b z e f = grind (arith, ints)

is_better_trans-above : (a b z : ℤ) → int_lt b a ≡ true → int_lt z b ≡ true → int_lt z a ≡ true
is_better_trans-above a b z e f = grind (arith, ints)

pub is_better_trans : (how : Agg) (a b z : ℤ) → is_better how a b ≡ true → is_better how b z ≡ true → is_better how a z ≡ true
is_better_trans agg.Count a b z e f = is_better_trans-below a b z e f
is_better_trans agg.Sum a b z e f = is_better_trans-below a b z e f
is_better_trans agg.Min a b z e f = is_better_trans-below a b z e f
is_better_trans agg.Max a b z e f = is_better_trans-above a b z e f
is_better_trans agg.Avg a b z e f = is_better_trans-below a b z e f
is_better_trans agg.Forall a b z e f = is_better_trans-below a b z e f
is_better_trans agg.Exists a b z e f = is_better_trans-below a b z e f

is_better_both-below : (a b z : ℤ) → int_lt a b ≡ true → int_lt a z ≡ true → int_lt a (lesser b z) ≡ true
is_better_both-below a b z e f = grind (arith, ints)

is_better_both-above : (a b z : ℤ) → int_lt b a ≡ true → int_lt z a ≡ true → int_lt (greater b z) a ≡ true
is_better_both-above a b z e f = grind (arith, ints)

pub is_better_both : (how : Agg) (a b z : ℤ) → is_better how a b ≡ true → is_better how a z ≡ true → is_better how a (better how b z) ≡ true
is_better_both agg.Count a b z e f = is_better_both-below a b z e f
is_better_both agg.Sum a b z e f = is_better_both-below a b z e f
is_better_both agg.Min a b z e f = is_better_both-below a b z e f
is_better_both agg.Max a b z e f = is_better_both-above a b z e f
is_better_both agg.Avg a b z e f = is_better_both-below a b z e f
is_better_both agg.Forall a b z e f = is_better_both-below a b z e f
is_better_both agg.Exists a b z e f = is_better_both-below a b z e f

-- the model's folds are the best by order
pub least_is : (z : ℤ) (zs : List ℤ) → least_of z zs ≡ best_after agg.Min z (best_of agg.Min zs)
least_is z [] = refl
least_is z (y ∷ ys) = ap (lesser z) (least_is y ys)

pub greatest_is : (z : ℤ) (zs : List ℤ) → greatest_of z zs ≡ best_after agg.Max z (best_of agg.Max zs)
greatest_is z [] = refl
greatest_is z (y ∷ ys) = ap (greater z) (greatest_is y ys)
