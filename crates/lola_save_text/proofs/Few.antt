-- Different lists of parameters are no more than there are.
use Rattle.std.proofs.Common.{◌≡◌, ℕ, zero, suc, ◌+◌, ◌*◌, ◌≤◌, ◌<◌, List, [], ◌∷◌, length, Bool, true, false, ◌&&◌, if◌then◌else◌, refl, sym, ap, subst, ◌∙◌, arith, nat_eq, ℤ, pos, negsuc, min}
use Rattle.std.specs.Cmp.{first_so, second_so}
use Rattle.std.proofs.lemmas.Bool.Decides.{nat_tests}
use Rattle.std.proofs.lemmas.Int.{ints}
use Rattle.lola_value.specs.declared.text.Field.{Field}
use Rattle.lola_value.specs.declared.text.Field.TheVariants as field
use Rattle.lola_value.specs.declared.value.Kind.{Kind}
use Rattle.lola_value.specs.declared.value.Kind.TheVariants as kind
use Rattle.lola_value.specs.Arithmetic.{fields_equal, all_equal}
use Rattle.lola_save_text.proofs.Claims.{AreDifferent, AreFew}
use Rattle.lola_save_text.specs.Fitting.{are_values, is_among, is_value}
use Rattle.lola_save_text.specs.Lines.{count_of}
use Rattle.lola_save_text.specs.Places.{choices, most_lists}
use Rattle.lola_save_text.specs.States.{SavedInstance}
use Rattle.lola_save_text.proofs.Another.{value_of, halved, rests, others, fields-same, or-left, or-right, neither}

abbrev Distinct : List (List Field) → Type 0
Distinct [] = Unit {0}
Distinct (p ∷ ps) = (is_among p ps ≡ false) × Distinct ps

abbrev AllAre : List Kind → List (List Field) → Type 0
AllAre ks [] = Unit {0}
AllAre ks (p ∷ ps) = (are_values ks p ≡ true) × AllAre ks ps

gather : (ks : List Kind) (is : List SavedInstance) (seen : List (List Field)) → AllAre ks seen → Distinct seen → AreDifferent ks seen is
    → (ps : List (List Field)) × Distinct ps × AllAre ks ps × (length ps ≡ count_of is + length seen)
gather ks [] seen a d h = (seen, d, a, omega arith)
gather ks (i ∷ is) seen a d h =
    let r = gather ks is (i.params ∷ seen) (h.0, a) (h.1, d) h.2 in
    let l = r.3 in
    (r.0, r.1, r.2, omega (arith, l))

-- each list begins with one of the first n values
abbrev Begin : Kind → ℕ → List (List Field) → Type 0
Begin k n [] = Unit {0}
Begin k n ([] ∷ ps) = ⊥
Begin k n ((w ∷ p) ∷ ps) = ((i : ℕ) × (i < n) × (fields_equal (value_of k i) w ≡ true)) × Begin k n ps

module _ (k : Kind) (ks : List Kind) where
  tails-are : (v : Field) (ps : List (List Field)) → AllAre (k ∷ ks) ps → AllAre ks (rests v ps)
  tails-are v [] a = tt
  tails-are v ([] ∷ ps) a = absurd (cc)
  tails-are v ((w ∷ p) ∷ ps) a = by (fields_equal v w) (tails-are v ps a.1)
    where
      by : (b : Bool) → AllAre ks (rests v ps) → AllAre ks (if b then p ∷ rests v ps else rests v ps)
      by true h = (second_so (is_value k w) (are_values ks p) a.0, h)
      by false h = h

  others-are : (v : Field) (ps : List (List Field)) → AllAre (k ∷ ks) ps → AllAre (k ∷ ks) (others v ps)
  others-are v [] a = tt
  others-are v ([] ∷ ps) a = absurd (cc)
  others-are v ((w ∷ p) ∷ ps) a = by (fields_equal v w) (others-are v ps a.1)
    where
      by : (b : Bool) → AllAre (k ∷ ks) (others v ps) → AllAre (k ∷ ks) (if b then others v ps else (w ∷ p) ∷ others v ps)
      by true h = h
      by false h = (a.0, h)

  others-among : (v : Field) (q : List Field) (ps : List (List Field)) → is_among q ps ≡ false → is_among q (others v ps) ≡ false
  others-among v q [] e = refl
  others-among v q ([] ∷ ps) e = others-among v q ps (or-right (all_equal q []) (is_among q ps) e)
  others-among v q ((w ∷ p) ∷ ps) e = by (fields_equal v w) (others-among v q ps (or-right (all_equal q (w ∷ p)) (is_among q ps) e))
    where
      by : (b : Bool) → is_among q (others v ps) ≡ false → is_among q (if b then others v ps else (w ∷ p) ∷ others v ps) ≡ false
      by true h = h
      by false h = neither (all_equal q (w ∷ p)) (is_among q (others v ps)) (or-left (all_equal q (w ∷ p)) (is_among q ps) e) h

  others-distinct : (v : Field) (ps : List (List Field)) → Distinct ps → Distinct (others v ps)
  others-distinct v [] d = tt
  others-distinct v ([] ∷ ps) d = others-distinct v ps d.1
  others-distinct v ((w ∷ p) ∷ ps) d = by (fields_equal v w) (others-distinct v ps d.1)
    where
      by : (b : Bool) → Distinct (others v ps) → Distinct (if b then others v ps else (w ∷ p) ∷ others v ps)
      by true h = h
      by false h = (others-among v (w ∷ p) ps d.0, h)

  self-so : (u v w : Field) → fields_equal v u ≡ true → fields_equal v w ≡ true → fields_equal u w ≡ true
  self-so u v w e f = subst (λ x. fields_equal x w ≡ true) (fields-same v u e) f

  rests-among : (v u : Field) (q : List Field) (ps : List (List Field)) → fields_equal v u ≡ true → is_among (u ∷ q) ps ≡ false → is_among q (rests v ps) ≡ false
  rests-among v u q [] s e = refl
  rests-among v u q ([] ∷ ps) s e = rests-among v u q ps s e
  rests-among v u q ((w ∷ p) ∷ ps) s e = by (fields_equal v w) refl (rests-among v u q ps s (or-right (fields_equal u w && all_equal q p) (is_among (u ∷ q) ps) e))
    where
      by : (b : Bool) → fields_equal v w ≡ b → is_among q (rests v ps) ≡ false → is_among q (if b then p ∷ rests v ps else rests v ps) ≡ false
      by true f h =
          neither (all_equal q p) (is_among q (rests v ps))
          (sym (ap (λ b. b && all_equal q p) (self-so u v w s f)) ∙ or-left (fields_equal u w && all_equal q p) (is_among (u ∷ q) ps) e) h
      by false f h = h

  rests-distinct : (v : Field) (ps : List (List Field)) → Distinct ps → Distinct (rests v ps)
  rests-distinct v [] d = tt
  rests-distinct v ([] ∷ ps) d = rests-distinct v ps d.1
  rests-distinct v ((w ∷ p) ∷ ps) d = by (fields_equal v w) refl (rests-distinct v ps d.1)
    where
      by : (b : Bool) → fields_equal v w ≡ b → Distinct (rests v ps) → Distinct (if b then p ∷ rests v ps else rests v ps)
      by true f h = (rests-among v w p ps f d.0, h)
      by false f h = h

  others-begin : (n : ℕ) (ps : List (List Field)) → Begin k (suc n) ps → Begin k n (others (value_of k n) ps)
  others-begin n [] b = tt
  others-begin n ([] ∷ ps) b = absurd b
  others-begin n ((w ∷ p) ∷ ps) b = by (fields_equal (value_of k n) w) refl (others-begin n ps b.1)
    where
      at-n : (i : ℕ) (t : Bool) → nat_eq i n ≡ t → i < suc n → fields_equal (value_of k i) w ≡ true → fields_equal (value_of k n) w ≡ false → i < n
      at-n i true g l e f = absurd (let q : i ≡ n = grind (arith, nat_tests, g) in let z : fields_equal (value_of k n) w ≡ true = subst (λ m. fields_equal (value_of k m) w ≡ true) q e in cc)
      at-n i false g l e f = grind (arith, nat_tests, g, l)

      by : (t : Bool) → fields_equal (value_of k n) w ≡ t → Begin k n (others (value_of k n) ps) → Begin k n (if t then others (value_of k n) ps else (w ∷ p) ∷ others (value_of k n) ps)
      by true f h = h
      by false f h = ((b.0.0, at-n b.0.0 (nat_eq b.0.0 n) refl b.0.1 b.0.2 f, b.0.2), h)

  split-all : (n : ℕ) (v : Field) (ps : List (List Field)) → Begin k n ps → length ps ≡ length (rests v ps) + length (others v ps)
  split-all n v [] b = omega arith
  split-all n v ([] ∷ ps) b = absurd b
  split-all n v ((w ∷ p) ∷ ps) b = by (fields_equal v w) (split-all n v ps b.1)
    where
      by : (t : Bool) → length ps ≡ length (rests v ps) + length (others v ps)
          → length ((w ∷ p) ∷ ps) ≡ length (if t then p ∷ rests v ps else rests v ps) + length (if t then others v ps else (w ∷ p) ∷ others v ps)
      by true h = omega (arith, h)
      by false h = omega (arith, h)

  module _ (tails : (ps : List (List Field)) → AllAre ks ps → Distinct ps → length ps ≤ 65536 → length ps ≤ most_lists ks) where
    cover : (n : ℕ) (ps : List (List Field)) → Begin k n ps → AllAre (k ∷ ks) ps → Distinct ps → length ps ≤ 65536 → length ps ≤ n * most_lists ks
    cover zero [] b a d l = omega arith
    cover zero ([] ∷ ps) b a d l = absurd b
    cover zero ((w ∷ p) ∷ ps) b a d l = absurd (let z = b.0.1 in omega (arith, z))
    cover (suc n) ps b a d l =
        let v = value_of k n in
        let s = split-all (suc n) v ps b in
        let front = tails (rests v ps) (tails-are v ps a) (rests-distinct v ps d) (omega (arith, s, l)) in
        let back = cover n (others v ps) (others-begin n ps b) (others-are v ps a) (others-distinct v ps d) (omega (arith, s, l)) in
        add n (most_lists ks) (length ps) (length (rests v ps)) (length (others v ps)) s front back
      where
        add : (n m all r o : ℕ) → all ≡ r + o → r ≤ m → o ≤ n * m → all ≤ suc n * m
        add n m all r o s f b = grind (arith, s, f, b)

-- every value of a small kind is one of the values by numbers

begins : (k : Kind) (n : ℕ) (ks : List Kind) → ((w : Field) → is_value k w ≡ true → (i : ℕ) × (i < n) × (fields_equal (value_of k i) w ≡ true)) → (ps : List (List Field)) → AllAre (k ∷ ks) ps → Begin k n ps
begins k n ks at [] a = tt
begins k n ks at ([] ∷ ps) a = absurd (cc)
begins k n ks at ((w ∷ p) ∷ ps) a = (at w (first_so (is_value k w) (are_values ks p) a.0), begins k n ks at ps a.1)

same-int : (a b : ℤ) → a ≡ b → fields_equal (field.Int a) (field.Int b) ≡ true
same-int a b e = grind (arith, ints, e)

bool-at : (w : Field) → is_value kind.Bool w ≡ true → (i : ℕ) × (i < 2) × (fields_equal (value_of kind.Bool i) w ≡ true)
bool-at (field.Bool true) e = (1, omega arith, refl)
bool-at (field.Bool false) e = (0, omega arith, refl)
bool-at (field.Int z) e = absurd (cc)
bool-at (field.Text t) e = absurd (cc)
bool-at field.Absent e = absurd (cc)

u8-at : (w : Field) → is_value kind.UInt8 w ≡ true → (i : ℕ) × (i < 256) × (fields_equal (value_of kind.UInt8 i) w ≡ true)
u8-at (field.Bool b) e = absurd (cc)
u8-at (field.Int (pos n)) e = (n, grind (arith, ints, e), same-int (pos n) (pos n) refl)
u8-at (field.Int (negsuc n)) e = absurd (grind (arith, ints, e))
u8-at (field.Text t) e = absurd (cc)
u8-at field.Absent e = absurd (cc)

i8-at : (w : Field) → is_value kind.Int8 w ≡ true → (i : ℕ) × (i < 256) × (fields_equal (value_of kind.Int8 i) w ≡ true)
i8-at (field.Bool b) e = absurd (cc)
i8-at (field.Int (pos n)) e = let l : n < 128 = grind (arith, ints, e) in (n, omega (arith, l), same-int (halved 128 n) (pos n) (grind (arith, ints, nat_tests, l)))
i8-at (field.Int (negsuc n)) e = let l : n < 128 = grind (arith, ints, e) in (n + 128, omega (arith, l), same-int (halved 128 (n + 128)) (negsuc n) (grind (arith, ints, nat_tests, l)))
i8-at (field.Text t) e = absurd (cc)
i8-at field.Absent e = absurd (cc)

most-some : (ks : List Kind) → 1 ≤ most_lists ks
most-some [] = omega arith
most-some (k ∷ ks) = some k (most_lists ks) (most-some ks)
  where
    some : (k : Kind) (m : ℕ) → 1 ≤ m → 1 ≤ min 65536 (choices k * m)
    some kind.Bool m l = omega (arith, l)
    some kind.Int8 m l = omega (arith, l)
    some kind.UInt8 m l = omega (arith, l)
    some kind.Int16 m l = omega (arith, l)
    some kind.Int32 m l = omega (arith, l)
    some kind.Int64 m l = omega (arith, l)
    some kind.UInt16 m l = omega (arith, l)
    some kind.UInt32 m l = omega (arith, l)
    some kind.UInt64 m l = omega (arith, l)
    some kind.Text m l = omega (arith, l)

many : (n m : ℕ) → 1 ≤ m → n ≤ 65536 → n ≤ min 65536 (65536 * m)
many n m l h = omega (arith, l, h)

under : (n a : ℕ) → n ≤ 65536 → n ≤ a → n ≤ min 65536 a
under n a l h = omega (arith, l, h)

lists-few : (ks : List Kind) (ps : List (List Field)) → AllAre ks ps → Distinct ps → length ps ≤ 65536 → length ps ≤ most_lists ks
lists-few [] [] a d l = omega arith
lists-few [] (p ∷ []) a d l = omega arith
lists-few [] ([] ∷ [] ∷ ps) a d l = absurd (cc)
lists-few [] ((v ∷ p) ∷ q ∷ ps) a d l = absurd (cc)
lists-few [] ([] ∷ (v ∷ q) ∷ ps) a d l = absurd (cc)
lists-few (kind.Bool ∷ ks) ps a d l = under (length ps) (2 * most_lists ks) l (cover kind.Bool ks (lists-few ks) 2 ps (begins kind.Bool 2 ks bool-at ps a) a d l)
lists-few (kind.Int8 ∷ ks) ps a d l = under (length ps) (256 * most_lists ks) l (cover kind.Int8 ks (lists-few ks) 256 ps (begins kind.Int8 256 ks i8-at ps a) a d l)
lists-few (kind.UInt8 ∷ ks) ps a d l = under (length ps) (256 * most_lists ks) l (cover kind.UInt8 ks (lists-few ks) 256 ps (begins kind.UInt8 256 ks u8-at ps a) a d l)
lists-few (kind.Int16 ∷ ks) ps a d l = many (length ps) (most_lists ks) (most-some ks) l
lists-few (kind.Int32 ∷ ks) ps a d l = many (length ps) (most_lists ks) (most-some ks) l
lists-few (kind.Int64 ∷ ks) ps a d l = many (length ps) (most_lists ks) (most-some ks) l
lists-few (kind.UInt16 ∷ ks) ps a d l = many (length ps) (most_lists ks) (most-some ks) l
lists-few (kind.UInt32 ∷ ks) ps a d l = many (length ps) (most_lists ks) (most-some ks) l
lists-few (kind.UInt64 ∷ ks) ps a d l = many (length ps) (most_lists ks) (most-some ks) l
lists-few (kind.Text ∷ ks) ps a d l = many (length ps) (most_lists ks) (most-some ks) l

pub are-few : AreFew
are-few ks is h l =
    let r = gather ks is [] tt tt h in
    let e = r.3 in
    let f = lists-few ks r.0 r.2 r.1 (omega (arith, e, l)) in
    omega (arith, e, f)
