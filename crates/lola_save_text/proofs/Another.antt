-- Where there are fewer lists of parameters than the kinds have, there is another one.
use Rattle.std.proofs.Common.{◌≡◌, ℕ, zero, suc, ◌+◌, ◌-◌, ◌*◌, ◌≤◌, ◌<◌, List, [], ◌∷◌, length, Bool, true, false, ◌&&◌, ◌||◌, if◌then◌else◌, refl, sym, ap, subst, ◌∙◌, arith, nat_eq, nat_lt, ℤ, pos, negsuc, min}
use Rattle.std.specs.Prelude.{replicate, slice_index}
use Rattle.std.specs.Str.{is_utf8, IsAscii}
use Rattle.std.proofs.lemmas.Str.{is_utf8-from_IsUtf8, IsUtf8-from_ascii}
use Rattle.std.specs.Cmp.{first_so, second_so}
use Rattle.std.proofs.lemmas.Bool.Decides.{nat_tests}
use Rattle.std.proofs.lemmas.Int.{ints}
use Rattle.lola_value.specs.declared.text.Field.{Field}
use Rattle.lola_value.specs.declared.text.Field.TheVariants as field
use Rattle.lola_value.specs.declared.value.Kind.{Kind}
use Rattle.lola_value.specs.declared.value.Kind.TheVariants as kind
use Rattle.lola_value.specs.Arithmetic.{fields_equal, is_within, bytes_equal, bools_equal, all_equal}
use Rattle.lola_save_text.proofs.Claims.{ThereIsAnother}
use Rattle.lola_save_text.specs.Fitting.{are_values, is_among, is_value}
use Rattle.lola_save_text.specs.Places.{choices, most_lists}
use Rattle.lola_save_text.proofs.Choices.{both-so, eq-so}

-- different values of a kind, by numbers
abbrev pub halved : ℕ → ℕ → ℤ
halved half i = if nat_lt i half then pos i else negsuc (i - half)

abbrev pub value_of : Kind → ℕ → Field
value_of kind.Bool i = field.Bool (nat_eq i 1)
value_of kind.Int8 i = field.Int (halved 128 i)
value_of kind.Int16 i = field.Int (halved 32768 i)
value_of kind.Text i = field.Text (replicate i 97)
value_of k i = field.Int (pos i)

-- what the search needs of values: they are of the kind, and different
pub record HasValues (k : Kind) : Type 0 where
  pub are : (i : ℕ) → i < choices k → is_value k (value_of k i) ≡ true
  pub differ : (i j : ℕ) → i < j → j < choices k → fields_equal (value_of k i) (value_of k j) ≡ false

-- the rest of those that begin with a value, and those that do not
abbrev pub rests : Field → List (List Field) → List (List Field)
rests v [] = []
rests v ([] ∷ ps) = rests v ps
rests v ((w ∷ p) ∷ ps) = if fields_equal v w then p ∷ rests v ps else rests v ps

abbrev pub others : Field → List (List Field) → List (List Field)
others v [] = []
others v ([] ∷ ps) = others v ps
others v ((w ∷ p) ∷ ps) = if fields_equal v w then others v ps else (w ∷ p) ∷ others v ps

split-count : (v : Field) (ps : List (List Field)) → length (rests v ps) + length (others v ps) ≤ length ps
split-count v [] = omega arith
split-count v ([] ∷ ps) = let h = split-count v ps in omega arith
split-count v ((w ∷ p) ∷ ps) = by (fields_equal v w) (split-count v ps)
  where
    by : (b : Bool) → length (rests v ps) + length (others v ps) ≤ length ps
        → length (if b then p ∷ rests v ps else rests v ps) + length (if b then others v ps else (w ∷ p) ∷ others v ps) ≤ length ((w ∷ p) ∷ ps)
    by true h = omega arith
    by false h = omega arith

pub neither : (a b : Bool) → a ≡ false → b ≡ false → (a || b) ≡ false
neither a b e f = ap (λ c. c || b) e ∙ f

pub or-left : (a b : Bool) → (a || b) ≡ false → a ≡ false
or-left true b e = absurd (cc)
or-left false b e = refl

pub or-right : (a b : Bool) → (a || b) ≡ false → b ≡ false
or-right true b e = absurd (cc)
or-right false b e = e

-- not among the rests of a value: not among all, with that value in front
in-front : (v : Field) (q : List Field) (ps : List (List Field)) → is_among q (rests v ps) ≡ false → is_among (v ∷ q) ps ≡ false
in-front v q [] e = refl
in-front v q ([] ∷ ps) e = in-front v q ps e
in-front v q ((w ∷ p) ∷ ps) e = by (fields_equal v w) e (in-front v q ps)
  where
    by : (b : Bool) → is_among q (if b then p ∷ rests v ps else rests v ps) ≡ false → (is_among q (rests v ps) ≡ false → is_among (v ∷ q) ps ≡ false)
        → ((b && all_equal q p) || is_among (v ∷ q) ps) ≡ false
    by true e h = neither (all_equal q p) (is_among (v ∷ q) ps) (or-left (all_equal q p) (is_among q (rests v ps)) e) (h (or-right (all_equal q p) (is_among q (rests v ps)) e))
    by false e h = h e

module _ (equal-through : (u v w : Field) → fields_equal v w ≡ true → fields_equal u w ≡ true → fields_equal u v ≡ true) where
  no-both : (u v w : Field) (b : Bool) → fields_equal u w ≡ b → fields_equal v w ≡ true → fields_equal u v ≡ false → b ≡ false
  no-both u v w true e f g = sym (equal-through u v w f e) ∙ g
  no-both u v w false e f g = refl

  -- not among the others, and it begins with another value: not among all
  with-others : (u v : Field) (q : List Field) (ps : List (List Field)) → fields_equal u v ≡ false → is_among (u ∷ q) (others v ps) ≡ false → is_among (u ∷ q) ps ≡ false
  with-others u v q [] d e = refl
  with-others u v q ([] ∷ ps) d e = with-others u v q ps d e
  with-others u v q ((w ∷ p) ∷ ps) d e = by (fields_equal v w) refl e (with-others u v q ps d)
    where
      by : (b : Bool) → fields_equal v w ≡ b → is_among (u ∷ q) (if b then others v ps else (w ∷ p) ∷ others v ps) ≡ false
          → (is_among (u ∷ q) (others v ps) ≡ false → is_among (u ∷ q) ps ≡ false)
          → ((fields_equal u w && all_equal q p) || is_among (u ∷ q) ps) ≡ false
      by true f e h =
          neither (fields_equal u w && all_equal q p) (is_among (u ∷ q) ps)
          (ap (λ b. b && all_equal q p) (no-both u v w (fields_equal u w) refl f d)) (h e)
      by false f e h =
          neither (fields_equal u w && all_equal q p) (is_among (u ∷ q) ps)
          (or-left (fields_equal u w && all_equal q p) (is_among (u ∷ q) (others v ps)) e)
          (h (or-right (fields_equal u w && all_equal q p) (is_among (u ∷ q) (others v ps)) e))

  module _ (k : Kind) (ks : List Kind) (has : HasValues k)
      (tail : (seen : List (List Field)) → length seen < most_lists ks → (p : List Field) × (are_values ks p ≡ true) × (is_among p seen ≡ false)) where
    -- a list that begins with one of the first n values
    record Found (n : ℕ) (seen : List (List Field)) : Type 0 where
      pub at : ℕ
      pub below : at < n
      pub rest : List Field
      pub fits : are_values ks rest ≡ true
      pub new : is_among (value_of k at ∷ rest) seen ≡ false

    search-first : (n : ℕ) (seen : List (List Field)) → n ≤ choices k → length seen < n * most_lists ks → Found n seen
    search-first zero seen l h = absurd (omega arith)
    search-first (suc n) seen l h = by (nat_lt (length (rests (value_of k n) seen)) (most_lists ks)) refl (search-first n (others (value_of k n) seen) (omega arith))
      where
        by : (b : Bool) → nat_lt (length (rests (value_of k n) seen)) (most_lists ks) ≡ b
            → (length (others (value_of k n) seen) < n * most_lists ks → Found n (others (value_of k n) seen)) → Found (suc n) seen
        by true e later =
            let t = tail (rests (value_of k n) seen) (grind (arith, nat_tests, e)) in
            record { at = n; below = omega arith; rest = t.0; fits = t.1; new = in-front (value_of k n) t.0 seen t.2 }
        by false e later =
            let s = split-count (value_of k n) seen in
            let g : most_lists ks ≤ length (rests (value_of k n) seen) = grind (arith, nat_tests, e) in
            let f = later (less n (most_lists ks) (length seen) (length (rests (value_of k n) seen)) (length (others (value_of k n) seen)) s g h) in
            let b = f.below in
            record {
              at = f.at;
              below = omega (arith, b);
              rest = f.rest;
              fits = f.fits;
              new = with-others (value_of k f.at) (value_of k n) f.rest seen (has.differ f.at n b (omega arith)) f.new;
            }
          where
            less : (n m all r o : ℕ) → r + o ≤ all → m ≤ r → all < suc n * m → o < n * m
            less n m all r o s g h = grind (arith, s, g, h)

    another-one : (seen : List (List Field)) → length seen < most_lists (k ∷ ks) → (p : List Field) × (are_values (k ∷ ks) p ≡ true) × (is_among p seen ≡ false)
    another-one seen h =
        let f = search-first (choices k) seen (omega arith) (under (choices k * most_lists ks) (length seen) h) in
        (value_of k f.at ∷ f.rest, both-so (is_value k (value_of k f.at)) (are_values ks f.rest) (has.are f.at f.below) f.fits, f.new)
      where
        under : (a n : ℕ) → n < min 65536 a → n < a
        under a n h = omega arith

  pub there-is-another : ((k : Kind) → HasValues k) → ThereIsAnother
  there-is-another has [] [] h = ([], refl, refl)
  there-is-another has [] (p ∷ seen) h = absurd (omega arith)
  there-is-another has (k ∷ ks) seen h = another-one k ks (has k) (there-is-another has ks) seen h

-- the values of each kind

int-same : (a b : ℤ) → fields_equal (field.Int a) (field.Int b) ≡ true → a ≡ b
int-same a b e = grind (arith, ints, e)

halved-less : (half i j : ℕ) → i < j → halved half i ≡ halved half j → ⊥
halved-less half i j l e = grind (arith, ints, nat_tests, e, l)

int-differ : (a b : ℤ) → (a ≡ b → ⊥) → fields_equal (field.Int a) (field.Int b) ≡ false
int-differ a b d = by (fields_equal (field.Int a) (field.Int b)) refl
  where
    by : (t : Bool) → fields_equal (field.Int a) (field.Int b) ≡ t → t ≡ false
    by true e = absurd (d (int-same a b e))
    by false e = refl

pos-differ : (i j : ℕ) → i < j → fields_equal (field.Int (pos i)) (field.Int (pos j)) ≡ false
pos-differ i j l = int-differ (pos i) (pos j) (λ e. grind (arith, ints, e, l))

halved-differ : (half i j : ℕ) → i < j → fields_equal (field.Int (halved half i)) (field.Int (halved half j)) ≡ false
halved-differ half i j l = int-differ (halved half i) (halved half j) (halved-less half i j l)

within-8 : (i : ℕ) → i < 256 → is_within kind.Int8 (halved 128 i) ≡ true
within-8 i l = grind (arith, ints, nat_tests, l)

within-16 : (i : ℕ) → i < 65536 → is_within kind.Int16 (halved 32768 i) ≡ true
within-16 i l = grind (arith, ints, nat_tests, l)

within-32 : (i : ℕ) → i < 65536 → is_within kind.Int32 (pos i) ≡ true
within-32 i l = grind (arith, ints, l)

within-64 : (i : ℕ) → i < 65536 → is_within kind.Int64 (pos i) ≡ true
within-64 i l = grind (arith, ints, l)

within-u8 : (i : ℕ) → i < 256 → is_within kind.UInt8 (pos i) ≡ true
within-u8 i l = grind (arith, ints, l)

within-u16 : (i : ℕ) → i < 65536 → is_within kind.UInt16 (pos i) ≡ true
within-u16 i l = grind (arith, ints, l)

within-u32 : (i : ℕ) → i < 65536 → is_within kind.UInt32 (pos i) ≡ true
within-u32 i l = grind (arith, ints, l)

within-u64 : (i : ℕ) → i < 65536 → is_within kind.UInt64 (pos i) ≡ true
within-u64 i l = grind (arith, ints, l)

bool-differ : (i j : ℕ) → i < j → j < 2 → fields_equal (field.Bool (nat_eq i 1)) (field.Bool (nat_eq j 1)) ≡ false
bool-differ i j l m =
    let a : i ≡ 0 = omega arith in
    let b : j ≡ 1 = omega arith in
    ap (λ n. fields_equal (field.Bool (nat_eq n 1)) (field.Bool (nat_eq j 1))) a ∙ ap (λ n. fields_equal (field.Bool false) (field.Bool (nat_eq n 1))) b

-- texts of different lengths; that they are in UTF-8 is left to the library
module _ (plain : (i : ℕ) → is_utf8 (replicate i 97) ≡ true) (text-differ : (i j : ℕ) → i < j → fields_equal (field.Text (replicate i 97)) (field.Text (replicate j 97)) ≡ false) where
  pub all-have : (k : Kind) → HasValues k
  all-have kind.Bool = record { are = λ i l. refl; differ = bool-differ }
  all-have kind.Int8 = record { are = within-8; differ = λ i j l m. halved-differ 128 i j l }
  all-have kind.Int16 = record { are = within-16; differ = λ i j l m. halved-differ 32768 i j l }
  all-have kind.Int32 = record { are = within-32; differ = λ i j l m. pos-differ i j l }
  all-have kind.Int64 = record { are = within-64; differ = λ i j l m. pos-differ i j l }
  all-have kind.UInt8 = record { are = within-u8; differ = λ i j l m. pos-differ i j l }
  all-have kind.UInt16 = record { are = within-u16; differ = λ i j l m. pos-differ i j l }
  all-have kind.UInt32 = record { are = within-u32; differ = λ i j l m. pos-differ i j l }
  all-have kind.UInt64 = record { are = within-u64; differ = λ i j l m. pos-differ i j l }
  all-have kind.Text = record { are = λ i l. plain i; differ = λ i j l m. text-differ i j l }

-- texts of different lengths

pub bytes-same : (a b : List ℕ) → bytes_equal a b ≡ true → a ≡ b
bytes-same [] [] e = refl
bytes-same [] (y ∷ b) e = absurd (cc)
bytes-same (x ∷ a) [] e = absurd (cc)
bytes-same (x ∷ a) (y ∷ b) e =
    let h = eq-so x y (first_so (nat_eq x y) (bytes_equal a b) e) in
    let t = bytes-same a b (second_so (nat_eq x y) (bytes_equal a b) e) in
    λ i. h i ∷ t i

bools-same : (a b : Bool) → bools_equal a b ≡ true → a ≡ b
bools-same true true e = refl
bools-same true false e = absurd (cc)
bools-same false true e = absurd (cc)
bools-same false false e = refl

pub fields-same : (a b : Field) → fields_equal a b ≡ true → a ≡ b
fields-same (field.Bool a) (field.Bool b) e = ap (λ x. field.Bool x) (bools-same a b e)
fields-same (field.Int a) (field.Int b) e = ap (λ x. field.Int x) (int-same a b e)
fields-same (field.Text a) (field.Text b) e = ap (λ x. field.Text x) (bytes-same a b e)
fields-same field.Absent field.Absent e = refl
fields-same (field.Bool a) (field.Int b) e = absurd (cc)
fields-same (field.Bool a) (field.Text b) e = absurd (cc)
fields-same (field.Bool a) field.Absent e = absurd (cc)
fields-same (field.Int a) (field.Bool b) e = absurd (cc)
fields-same (field.Int a) (field.Text b) e = absurd (cc)
fields-same (field.Int a) field.Absent e = absurd (cc)
fields-same (field.Text a) (field.Bool b) e = absurd (cc)
fields-same (field.Text a) (field.Int b) e = absurd (cc)
fields-same (field.Text a) field.Absent e = absurd (cc)
fields-same field.Absent (field.Bool b) e = absurd (cc)
fields-same field.Absent (field.Int b) e = absurd (cc)
fields-same field.Absent (field.Text b) e = absurd (cc)

pub equal-through : (u v w : Field) → fields_equal v w ≡ true → fields_equal u w ≡ true → fields_equal u v ≡ true
equal-through u v w e f = subst (λ x. fields_equal u x ≡ true) (sym (fields-same v w e)) f

abbrev letters : ℕ → List ℕ
letters i = replicate i 97

length-letters : (i : ℕ) → length (letters i) ≡ i
length-letters zero = refl
length-letters (suc i) = let h = length-letters i in omega (arith, h)

letters-differ : (i j : ℕ) → i < j → fields_equal (field.Text (replicate i 97)) (field.Text (replicate j 97)) ≡ false
letters-differ i j l = by (bytes_equal (replicate i 97) (replicate j 97)) refl
  where
    by : (t : Bool) → bytes_equal (replicate i 97) (replicate j 97) ≡ t → t ≡ false
    by true e = absurd (let s : length (letters i) ≡ length (letters j) = ap length (bytes-same (replicate i 97) (replicate j 97) e) in let a = length-letters i in let b = length-letters j in omega (arith, s, a, b))
    by false e = refl

letters-ascii : (i : ℕ) → IsAscii (replicate i 97)
letters-ascii zero = λ n. omega arith
letters-ascii (suc i) = λ n. at n (letters-ascii i)
  where
    at : (n : ℕ) → IsAscii (letters i) → slice_index (97 ∷ letters i) n < 128
    at zero h = omega arith
    at (suc n) h = h n

letters-plain : (i : ℕ) → is_utf8 (replicate i 97) ≡ true
letters-plain i = is_utf8-from_IsUtf8 (replicate i 97) (IsUtf8-from_ascii (replicate i 97) (letters-ascii i))

pub another-there : ThereIsAnother
another-there = there-is-another equal-through (all-have letters-plain letters-differ)
