-- Tallies of lists, one behind the other, and what they answer.
use Rattle.std.proofs.Common.{◌≡◌, ℕ, zero, suc, List, [], ◌∷◌, ◌++◌, length, map, Bool, true, false, ◌&&◌, ◌||◌, refl, ap, sym, ◌∙◌, subst, arith, ℤ, pos, ◌+ℤ◌, ◌≤ℤ◌, length-append, int_lt, int_div, nat_eq, if◌then◌else◌, Option, None, negsuc, inl, inr}
use Rattle.std.specs.Prelude.{◌⊎◌}
use Rattle.std.proofs.lemmas.Int.{ints}
use Rattle.std.proofs.lemmas.List.{map-append, length-map}
use Rattle.lola_model.specs.declared.spec.Agg.{Agg}
use Rattle.lola_model.specs.declared.spec.Agg.TheVariants as agg
use Rattle.lola_model.specs.Windows.{total, all_true, some_true, aggregated, truth_of, number_of}
use Rattle.lola_value.specs.declared.text.Field.{Field}
use Rattle.lola_value.specs.declared.text.Field.TheVariants as field
use Rattle.lola_value.specs.declared.value.Kind.{Kind}
use Rattle.lola_value.specs.Answer.{Given, Missing}
use Rattle.lola_value.specs.Arithmetic.{within}
use Rattle.lola_panes.specs.Answers.{total_answer, is_extreme, same_number}
use Rattle.lola_panes.specs.declared.partial.Partial.TheVariants as partial
use Rattle.lola_panes.specs.Parts.{partial_of, part, counted, totalled, extreme_in}
use Rattle.lola_panes.specs.Weights.{weight_of, as_number, best_of}
use Rattle.lola_panes.specs.Holding.{AllWithin}
use Rattle.lola_panes.specs.Tallies.{Tells, fields_of, weights}
use Rattle.lola_panes.proofs.Folds.{total-append}
use Rattle.lola_panes.proofs.Means.{mean_is}
use Rattle.lola_panes.proofs.Ranges.{AllIn-numbers}

all-append : (xs ys : List (ℕ × Field)) → all_true (fields_of (xs ++ ys)) ≡ (all_true (fields_of xs) && all_true (fields_of ys))
all-append [] ys = refl
all-append (x ∷ xs) ys = by (truth_of x.1) (all-append xs ys)
  where
    by : (b : Bool) → all_true (fields_of (xs ++ ys)) ≡ (all_true (fields_of xs) && all_true (fields_of ys))
        → (b && all_true (fields_of (xs ++ ys))) ≡ ((b && all_true (fields_of xs)) && all_true (fields_of ys))
    by true e = e
    by false e = refl

some-append : (xs ys : List (ℕ × Field)) → some_true (fields_of (xs ++ ys)) ≡ (some_true (fields_of xs) || some_true (fields_of ys))
some-append [] ys = refl
some-append (x ∷ xs) ys = by (truth_of x.1) (some-append xs ys)
  where
    by : (b : Bool) → some_true (fields_of (xs ++ ys)) ≡ (some_true (fields_of xs) || some_true (fields_of ys))
        → (b || some_true (fields_of (xs ++ ys))) ≡ ((b || some_true (fields_of xs)) || some_true (fields_of ys))
    by true e = refl
    by false e = e

totals-append : (how : Agg) (xs ys : List (ℕ × Field)) → total (weights how (xs ++ ys)) ≡ total (weights how xs) +ℤ total (weights how ys)
totals-append how xs ys = ap total (map-append (λ (x : ℕ × Field). weight_of how x.1) xs ys) ∙ total-append (weights how xs) (weights how ys)

count-both : (c d : ℤ) (xs ys : List (ℕ × Field)) → c ≡ pos (length xs) → d ≡ pos (length ys) → c +ℤ d ≡ pos (length (xs ++ ys))
count-both c d xs ys e f = let l = length-append xs ys in omega (arith, ints, e, f, l)

total-both : (how : Agg) (s t : ℤ) (xs ys : List (ℕ × Field)) → s ≡ total (weights how xs) → t ≡ total (weights how ys) → s +ℤ t ≡ total (weights how (xs ++ ys))
total-both how s t xs ys e f = (λ i. e i +ℤ f i) ∙ sym (totals-append how xs ys)

forall-both : (a b : Bool) (c d s t : ℤ) → s ≤ℤ c → t ≤ℤ d → (a ≡ true → s ≡ c) → (s ≡ c → a ≡ true) → (b ≡ true → t ≡ d) → (t ≡ d → b ≡ true)
    → ((a && b) ≡ true → s +ℤ t ≡ c +ℤ d) × (s +ℤ t ≡ c +ℤ d → (a && b) ≡ true)
forall-both true b c d s t l m a0 a1 b0 b1 = (λ e. let p = a0 refl in let q = b0 e in omega (arith, ints, p, q), λ e. b1 (omega (arith, ints, l, m, e)))
forall-both false b c d s t l m a0 a1 b0 b1 = (λ e. absurd (cc), λ e. a1 (omega (arith, ints, l, m, e)))

either : (s t : ℤ) → pos 0 ≤ℤ s → pos 0 ≤ℤ t → pos 1 ≤ℤ (s +ℤ t) → (pos 1 ≤ℤ s) ⊎ (pos 1 ≤ℤ t)
either (pos zero) t l m e = inr (omega (arith, ints, e))
either (pos (suc n)) t l m e = inl (omega (arith, ints))
either (negsuc n) t l m e = absurd (omega (arith, ints, l))

exists-both : (a b : Bool) (s t : ℤ) → pos 0 ≤ℤ s → pos 0 ≤ℤ t → (a ≡ true → pos 1 ≤ℤ s) → (pos 1 ≤ℤ s → a ≡ true) → (b ≡ true → pos 1 ≤ℤ t) → (pos 1 ≤ℤ t → b ≡ true)
    → ((a || b) ≡ true → pos 1 ≤ℤ (s +ℤ t)) × (pos 1 ≤ℤ (s +ℤ t) → (a || b) ≡ true)
exists-both true b s t l m a0 a1 b0 b1 = (λ e. let p = a0 refl in omega (arith, ints, p, m), λ e. refl)
exists-both false true s t l m a0 a1 b0 b1 = (λ e. let q = b0 refl in omega (arith, ints, q, l), λ e. refl)
exists-both false false s t l m a0 a1 b0 b1 = (λ e. absurd (cc), λ e. elim (either s t l m e) [ inl p ↦ a1 p | inr q ↦ b1 q ])

pub tells-both : (how : Agg) (c d s t : ℤ) (xs ys : List (ℕ × Field)) → Tells how c s xs → Tells how d t ys → Tells how (c +ℤ d) (s +ℤ t) (xs ++ ys)
tells-both agg.Count c d s t xs ys g h = count-both c d xs ys g h
tells-both agg.Sum c d s t xs ys g h = total-both agg.Sum s t xs ys g h
tells-both agg.Avg c d s t xs ys g h = (count-both c d xs ys g.0 h.0, total-both agg.Avg s t xs ys g.1 h.1)
tells-both agg.Min c d s t xs ys g h = tt
tells-both agg.Max c d s t xs ys g h = tt
tells-both agg.Forall c d s t xs ys g h =
    let l = g.0 in
    let m = h.0 in (
      omega (arith, ints, l, m),
      subst (λ (b : Bool). (b ≡ true → s +ℤ t ≡ c +ℤ d) × (s +ℤ t ≡ c +ℤ d → b ≡ true)) (sym (all-append xs ys))
          (forall-both (all_true (fields_of xs)) (all_true (fields_of ys)) c d s t l m g.1.0 g.1.1 h.1.0 h.1.1),
    )
tells-both agg.Exists c d s t xs ys g h =
    let l = g.0 in
    let m = h.0 in (
      omega (arith, ints, l, m),
      subst (λ (b : Bool). (b ≡ true → pos 1 ≤ℤ (s +ℤ t)) × (pos 1 ≤ℤ (s +ℤ t) → b ≡ true)) (sym (some-append xs ys))
          (exists-both (some_true (fields_of xs)) (some_true (fields_of ys)) s t l m g.1.0 g.1.1 h.1.0 h.1.1),
    )

pub tells-none : (how : Agg) → Tells how (pos 0) (pos 0) []
tells-none agg.Count = refl
tells-none agg.Sum = refl
tells-none agg.Avg = (refl, refl)
tells-none agg.Min = tt
tells-none agg.Max = tt
tells-none agg.Forall = (omega (arith, ints), (λ e. refl, λ e. refl))
tells-none agg.Exists = (omega (arith, ints), (λ e. absurd (cc), λ e. absurd (omega (arith, ints, e))))

forall-one : (b : Bool) → (as_number b ≤ℤ pos 1) × (((b && true) ≡ true → as_number b ≡ pos 1) × (as_number b ≡ pos 1 → (b && true) ≡ true))
forall-one true = (omega (arith, ints), (λ e. refl, λ e. refl))
forall-one false = (omega (arith, ints), (λ e. absurd (cc), λ e. absurd (omega (arith, ints, e))))

exists-one : (b : Bool) → (pos 0 ≤ℤ as_number b) × (((b || false) ≡ true → pos 1 ≤ℤ as_number b) × (pos 1 ≤ℤ as_number b → (b || false) ≡ true))
exists-one true = (omega (arith, ints), (λ e. omega (arith, ints), λ e. refl))
exists-one false = (omega (arith, ints), (λ e. absurd (cc), λ e. absurd (omega (arith, ints, e))))

plus-none : (z : ℤ) → z ≡ z +ℤ pos 0
plus-none z = omega (arith, ints)

pub tells-one : (how : Agg) (v : ℕ × Field) → Tells how (pos 1) (weight_of how v.1) (v ∷ [])
tells-one agg.Count v = refl
tells-one agg.Sum v = plus-none (weight_of agg.Sum v.1)
tells-one agg.Avg v = (refl, plus-none (weight_of agg.Avg v.1))
tells-one agg.Min v = tt
tells-one agg.Max v = tt
tells-one agg.Forall v = forall-one (truth_of v.1)
tells-one agg.Exists v = exists-one (truth_of v.1)

-- the answers

iff-same : (a b : Bool) → (a ≡ true → b ≡ true) → (b ≡ true → a ≡ true) → a ≡ b
iff-same true b f g = sym (f refl)
iff-same false true f g = g refl
iff-same false false f g = refl

same-so : (a b : ℤ) → same_number a b ≡ true → a ≡ b
same-so a b e = grind (arith, ints, e)

so-same : (a b : ℤ) → a ≡ b → same_number a b ≡ true
so-same a b e = grind (arith, ints, e)

lt-so : (a : ℤ) → int_lt (pos 0) a ≡ true → pos 1 ≤ℤ a
lt-so a e = grind (arith, ints, e)

so-lt : (a : ℤ) → pos 1 ≤ℤ a → int_lt (pos 0) a ≡ true
so-lt a e = grind (arith, ints, e)

pub map-map : (f : Field → ℤ) (vs : List (ℕ × Field)) → map (λ (v : ℕ × Field). f v.1) vs ≡ map f (fields_of vs)
map-map f [] = refl
map-map f (v ∷ vs) = ap (λ l. f v.1 ∷ l) (map-map f vs)

pos-same : (a b : ℕ) → pos a ≡ pos b → a ≡ b
pos-same a b e = omega (arith, ints, e)

pub tells-answer : (how : Agg) (k : Kind) (n : ℕ) (t : ℤ) (vs : List (ℕ × Field)) → is_extreme how ≡ false → AllWithin k vs → Tells how (pos n) t vs
    → total_answer how k n t ≡ aggregated how k (map (λ v. v.1) vs)
tells-answer agg.Count k n t vs x y h = ap (λ m. Given (field.Int (pos m))) (pos-same n (length vs) h ∙ sym (length-map vs (λ (v : ℕ × Field). v.1)))
tells-answer agg.Sum k n t vs x y h = ap (within k) (h ∙ ap total (map-map number_of vs))
tells-answer agg.Avg k n t vs x y h =
    let zs = map number_of (fields_of vs) in
    let l : n ≡ length zs = pos-same n (length vs) h.0 ∙ sym (length-map (fields_of vs) number_of ∙ length-map vs (λ (v : ℕ × Field). v.1)) in
    let e : t ≡ total zs = h.1 ∙ ap total (map-map number_of vs) in
    (λ i. if nat_eq (l i) 0 then Missing else within k (int_div (e i) (pos (l i)))) ∙ mean_is k zs (AllIn-numbers k vs y)
tells-answer agg.Min k n t vs x y h = absurd (cc)
tells-answer agg.Max k n t vs x y h = absurd (cc)
tells-answer agg.Forall k n t vs x y h =
    ap (λ b. Given (field.Bool b)) (iff-same (same_number t (pos n)) (all_true (fields_of vs)) (λ e. h.1.1 (same-so t (pos n) e)) (λ e. so-same t (pos n) (h.1.0 e)))
tells-answer agg.Exists k n t vs x y h =
    ap (λ b. Given (field.Bool b)) (iff-same (int_lt (pos 0) t) (some_true (fields_of vs)) (λ e. h.1.1 (lt-so t e)) (λ e. so-lt t (h.1.0 e)))

-- partial results

-- the partial result from what tells of the values is that of the values
pub tells-part : (how : Agg) (n : ℕ) (t : ℤ) (best : Option ℤ) (vs : List (ℕ × Field)) → Tells how (pos n) t vs → (is_extreme how ≡ true → best ≡ best_of how (weights how vs))
    → part how n t best ≡ partial_of how vs
tells-part agg.Count n t best vs h x = ap (λ m. partial.Number (pos m)) (pos-same n (length vs) h)
tells-part agg.Sum n t best vs h x = ap partial.Number h
tells-part agg.Avg n t best vs h x = λ i. partial.Mean (h.1 i) (pos-same n (length vs) h.0 i)
tells-part agg.Min n t best vs h x = ap partial.Extreme (x refl)
tells-part agg.Max n t best vs h x = ap partial.Extreme (x refl)
tells-part agg.Forall n t best vs h x =
    ap partial.Truth (iff-same (same_number t (pos n)) (all_true (fields_of vs)) (λ e. h.1.1 (same-so t (pos n) e)) (λ e. so-same t (pos n) (h.1.0 e)))
tells-part agg.Exists n t best vs h x =
    ap partial.Truth (iff-same (int_lt (pos 0) t) (some_true (fields_of vs)) (λ e. h.1.1 (lt-so t e)) (λ e. so-lt t (h.1.0 e)))

told-all : (b : Bool) → ((if b then pos 0 else negsuc 0) ≤ℤ pos 0) × ((b ≡ true → (if b then pos 0 else negsuc 0) ≡ pos 0) × ((if b then pos 0 else negsuc 0) ≡ pos 0 → b ≡ true))
told-all true = (omega (arith, ints), (λ e. refl, λ e. refl))
told-all false = (omega (arith, ints), (λ e. absurd (cc), λ e. absurd (cc)))

told-some : (b : Bool) → (pos 0 ≤ℤ (if b then pos 1 else pos 0)) × ((b ≡ true → pos 1 ≤ℤ (if b then pos 1 else pos 0)) × (pos 1 ≤ℤ (if b then pos 1 else pos 0) → b ≡ true))
told-some true = (omega (arith, ints), (λ e. omega (arith, ints), λ e. refl))
told-some false = (omega (arith, ints), (λ e. absurd (cc), λ e. absurd (omega (arith, ints, e))))

-- a partial result tells of its values
pub part-tells : (how : Agg) (vs : List (ℕ × Field)) → Tells how (pos (counted how (partial_of how vs))) (totalled how (partial_of how vs)) vs
part-tells agg.Count vs = refl
part-tells agg.Sum vs = refl
part-tells agg.Avg vs = (refl, refl)
part-tells agg.Min vs = tt
part-tells agg.Max vs = tt
part-tells agg.Forall vs = told-all (all_true (fields_of vs))
part-tells agg.Exists vs = told-some (some_true (fields_of vs))

-- and has the best of them
pub part-best : (how : Agg) (vs : List (ℕ × Field)) → is_extreme how ≡ true → best_of how (weights how vs) ≡ extreme_in (partial_of how vs)
part-best agg.Min vs e = refl
part-best agg.Max vs e = refl
part-best agg.Count vs e = absurd (cc)
part-best agg.Sum vs e = absurd (cc)
part-best agg.Avg vs e = absurd (cc)
part-best agg.Forall vs e = absurd (cc)
part-best agg.Exists vs e = absurd (cc)

-- a pane that is not kept has no value
none_best : (how : Agg) (vs : List (ℕ × Field)) → best_of how (weights how vs) ≡ None → vs ≡ []
none_best how [] e = refl
none_best how (v ∷ vs) e = absurd (cc)

pub part-none : (how : Agg) (vs : List (ℕ × Field)) → extreme_in (partial_of how vs) ≡ None → vs ≡ []
part-none agg.Min vs e = none_best agg.Min vs e
part-none agg.Max vs e = none_best agg.Max vs e
part-none agg.Count vs e = absurd (cc)
part-none agg.Sum vs e = absurd (cc)
part-none agg.Avg vs e = absurd (cc)
part-none agg.Forall vs e = absurd (cc)
part-none agg.Exists vs e = absurd (cc)
