-- Numbers of a kind: the least and the greatest of some, their mean and their total.
use Rattle.std.proofs.Common.{◌≡◌, ℕ, suc, ◌*◌, ◌/◌, ◌^◌, ◌≤◌, List, [], ◌∷◌, length, map, refl, arith, ℤ, pos, negsuc, ◌+ℤ◌, ◌≤ℤ◌, ◌*ℤ◌, true, false, int_le, int_div, unsigned_abs, if◌then◌else◌}
use Rattle.std.proofs.lemmas.Bool.{and_parts}
use Rattle.std.proofs.lemmas.Int.{ints}
use Rattle.std.proofs.Math.Nat.{div-le_of_le-mul}
use Rattle.lola_model.specs.Windows.{total, number_of, least_of, greatest_of}
use Rattle.lola_value.specs.declared.value.Kind.{Kind}
use Rattle.lola_value.specs.declared.value.Kind.TheVariants as kind
use Rattle.lola_value.specs.declared.text.Field.{Field}
use Rattle.lola_value.specs.declared.text.Field.TheVariants as field
use Rattle.lola_value.specs.Arithmetic.{is_within, least, greatest}
use Rattle.lola_value.specs.Kinds.{is_integer}
use Rattle.lola_save_text.specs.Fitting.{is_value}

-- all numbers are within a kind
abbrev pub AllIn : Kind → List ℤ → Type 0
AllIn k [] = Unit {0}
AllIn k (z ∷ zs) = (is_within k z ≡ true) × AllIn k zs

-- all values are of a kind
abbrev pub AreValues : Kind → List Field → Type 0
AreValues k [] = Unit {0}
AreValues k (v ∷ vs) = (is_value k v ≡ true) × AreValues k vs

zero-in : (k : Kind) → is_within k (pos 0) ≡ true
zero-in kind.Bool = refl
zero-in kind.Text = refl
zero-in kind.Int8 = refl
zero-in kind.Int16 = refl
zero-in kind.Int32 = refl
zero-in kind.Int64 = refl
zero-in kind.UInt8 = refl
zero-in kind.UInt16 = refl
zero-in kind.UInt32 = refl
zero-in kind.UInt64 = refl

-- the number of a value of a kind is within it
pub number-in : (k : Kind) (v : Field) → is_value k v ≡ true → is_within k (number_of v) ≡ true
number-in k field.Absent h = absurd (cc)
number-in k (field.Bool b) h = zero-in k
number-in k (field.Int z) h = (and_parts (is_integer k) (is_within k z) h).1
number-in k (field.Text t) h = zero-in k

-- and so are those of all
pub numbers-in : (k : Kind) (vs : List Field) → AreValues k vs → AllIn k (map number_of vs)
numbers-in k [] h = tt
numbers-in k (v ∷ vs) h = (number-in k v h.0, numbers-in k vs h.1)

lesser-in : (k : Kind) (a b : ℤ) → is_within k a ≡ true → is_within k b ≡ true → is_within k (if int_le a b then a else b) ≡ true
lesser-in k a b h g = elim (int_le a b) as (λ t. is_within k (if t then a else b) ≡ true) [ true ↦ h | false ↦ g ]

-- the least of numbers of a kind
pub least-in : (k : Kind) (z : ℤ) (zs : List ℤ) → AllIn k (z ∷ zs) → is_within k (least_of z zs) ≡ true
least-in k z [] h = h.0
least-in k z (y ∷ ys) h = lesser-in k z (least_of y ys) h.0 (least-in k y ys h.1)

greater-in : (k : Kind) (a b : ℤ) → is_within k a ≡ true → is_within k b ≡ true → is_within k (if int_le a b then b else a) ≡ true
greater-in k a b h g = elim (int_le a b) as (λ t. is_within k (if t then b else a) ≡ true) [ true ↦ g | false ↦ h ]

-- the greatest
pub greatest-in : (k : Kind) (z : ℤ) (zs : List ℤ) → AllIn k (z ∷ zs) → is_within k (greatest_of z zs) ≡ true
greatest-in k z [] h = h.0
greatest-in k z (y ∷ ys) h = greater-in k z (greatest_of y ys) h.0 (greatest-in k y ys h.1)

-- a kind's range, as what is below 0 and above it

low : Kind → ℕ
low kind.Int8 = 128
low kind.Int16 = 32768
low kind.Int32 = 2147483648
low kind.Int64 = 9223372036854775808
low _ = 0

high : Kind → ℕ
high kind.Int8 = 127
high kind.Int16 = 32767
high kind.Int32 = 2147483647
high kind.Int64 = 9223372036854775807
high kind.UInt8 = 255
high kind.UInt16 = 65535
high kind.UInt32 = 4294967295
high kind.UInt64 = 18446744073709551615
high _ = 0

IsBetween : ℕ → ℕ → ℤ → Type 0
IsBetween l h z = (pos 0 ≤ℤ (z +ℤ pos l)) × (z ≤ℤ pos h)

to-between : (k : Kind) (z : ℤ) → is_within k z ≡ true → IsBetween (low k) (high k) z
unfolding low high IsBetween
to-between kind.Bool z h = grind (arith, ints)
to-between kind.Text z h = grind (arith, ints)
to-between kind.Int8 z h = grind (arith, ints)
to-between kind.Int16 z h = grind (arith, ints)
to-between kind.Int32 z h = grind (arith, ints)
to-between kind.Int64 z h = grind (arith, ints)
to-between kind.UInt8 z h = grind (arith, ints)
to-between kind.UInt16 z h = grind (arith, ints)
to-between kind.UInt32 z h = grind (arith, ints)
to-between kind.UInt64 z h = grind (arith, ints)

from-between : (k : Kind) (z : ℤ) → IsBetween (low k) (high k) z → is_within k z ≡ true
unfolding low high IsBetween
from-between kind.Bool z h = grind (arith, ints)
from-between kind.Text z h = grind (arith, ints)
from-between kind.Int8 z h = grind (arith, ints)
from-between kind.Int16 z h = grind (arith, ints)
from-between kind.Int32 z h = grind (arith, ints)
from-between kind.Int64 z h = grind (arith, ints)
from-between kind.UInt8 z h = grind (arith, ints)
from-between kind.UInt16 z h = grind (arith, ints)
from-between kind.UInt32 z h = grind (arith, ints)
from-between kind.UInt64 z h = grind (arith, ints)

total-between : (k : Kind) (zs : List ℤ) → AllIn k zs → IsBetween (length zs * low k) (length zs * high k) (total zs)
unfolding IsBetween
total-between k [] h = (omega (arith, ints), omega (arith, ints))
total-between k (z ∷ zs) h =
    let on = total-between k zs h.1 in
    let a = to-between k z h.0 in
    (omega (arith, ints, on.0, a.0), omega (arith, ints, on.1, a.1))

quotient-between : (l h n : ℕ) (z : ℤ) → 1 ≤ n → IsBetween (n * l) (n * h) z → IsBetween l h (int_div z (pos n))
unfolding IsBetween
quotient-between l h n (pos a) g b =
    let u : a ≤ n * h = omega (arith, ints, b.1) in
    let q : a / n ≤ h = div-le_of_le-mul n u in
    (omega (arith, ints), omega (arith, ints, q))
quotient-between l h n (negsuc a) g b =
    let u : suc a ≤ n * l = omega (arith, ints, b.0) in
    let q : suc a / n ≤ l = div-le_of_le-mul n u in
    (omega (arith, ints, q), omega (arith, ints, q))

-- the mean
pub mean-in : (k : Kind) (z : ℤ) (zs : List ℤ) → AllIn k (z ∷ zs) → is_within k (int_div (total (z ∷ zs)) (pos (length (z ∷ zs)))) ≡ true
mean-in k z zs h =
    from-between k (int_div (total (z ∷ zs)) (pos (length (z ∷ zs)))) (quotient-between (low k) (high k) (length (z ∷ zs)) (total (z ∷ zs)) (omega arith) (total-between k (z ∷ zs) h))

-- the total lies from so many times the least to so many times the greatest

scaled-least : (k : Kind) (n : ℕ) (t : ℤ) → pos 0 ≤ℤ (t +ℤ pos (n * low k)) → int_le (pos n *ℤ least k) t ≡ true
unfolding low
scaled-least kind.Bool n t h = grind (arith, ints)
scaled-least kind.Text n t h = grind (arith, ints)
scaled-least kind.Int8 n t h = grind (arith, ints)
scaled-least kind.Int16 n t h = grind (arith, ints)
scaled-least kind.Int32 n t h = grind (arith, ints)
scaled-least kind.Int64 n t h = grind (arith, ints)
scaled-least kind.UInt8 n t h = grind (arith, ints)
scaled-least kind.UInt16 n t h = grind (arith, ints)
scaled-least kind.UInt32 n t h = grind (arith, ints)
scaled-least kind.UInt64 n t h = grind (arith, ints)

scaled-greatest : (k : Kind) (n : ℕ) (t : ℤ) → t ≤ℤ pos (n * high k) → int_le t (pos n *ℤ greatest k) ≡ true
unfolding high
scaled-greatest kind.Bool n t h = grind (arith, ints)
scaled-greatest kind.Text n t h = grind (arith, ints)
scaled-greatest kind.Int8 n t h = grind (arith, ints)
scaled-greatest kind.Int16 n t h = grind (arith, ints)
scaled-greatest kind.Int32 n t h = grind (arith, ints)
scaled-greatest kind.Int64 n t h = grind (arith, ints)
scaled-greatest kind.UInt8 n t h = grind (arith, ints)
scaled-greatest kind.UInt16 n t h = grind (arith, ints)
scaled-greatest kind.UInt32 n t h = grind (arith, ints)
scaled-greatest kind.UInt64 n t h = grind (arith, ints)

pub total-least : (k : Kind) (zs : List ℤ) → AllIn k zs → int_le (pos (length zs) *ℤ least k) (total zs) ≡ true
unfolding IsBetween
total-least k zs h = scaled-least k (length zs) (total zs) (total-between k zs h).0

pub total-greatest : (k : Kind) (zs : List ℤ) → AllIn k zs → int_le (total zs) (pos (length zs) *ℤ greatest k) ≡ true
unfolding IsBetween
total-greatest k zs h = scaled-greatest k (length zs) (total zs) (total-between k zs h).1

-- and its size is no more than so many values make it

low-small : (k : Kind) → low k ≤ 2 ^ 64
unfolding low
low-small kind.Bool = omega arith
low-small kind.Text = omega arith
low-small kind.Int8 = omega arith
low-small kind.Int16 = omega arith
low-small kind.Int32 = omega arith
low-small kind.Int64 = omega arith
low-small kind.UInt8 = omega arith
low-small kind.UInt16 = omega arith
low-small kind.UInt32 = omega arith
low-small kind.UInt64 = omega arith

high-small : (k : Kind) → high k ≤ 2 ^ 64
unfolding high
high-small kind.Bool = omega arith
high-small kind.Text = omega arith
high-small kind.Int8 = omega arith
high-small kind.Int16 = omega arith
high-small kind.Int32 = omega arith
high-small kind.Int64 = omega arith
high-small kind.UInt8 = omega arith
high-small kind.UInt16 = omega arith
high-small kind.UInt32 = omega arith
high-small kind.UInt64 = omega arith

times-le : (n a b : ℕ) → a ≤ b → n * a ≤ n * b
times-le n a b h = grind arith

size-between : (n l h m : ℕ) (t : ℤ) → l ≤ m → h ≤ m → IsBetween (n * l) (n * h) t → unsigned_abs t ≤ n * m
unfolding IsBetween
size-between n l h m (pos a) p q b = let u : a ≤ n * h = omega (arith, ints, b.1) in omega (arith, u, times-le n h m q)
size-between n l h m (negsuc a) p q b = let u : suc a ≤ n * l = omega (arith, ints, b.0) in omega (arith, u, times-le n l m p)

pub total-size : (k : Kind) (zs : List ℤ) → AllIn k zs → unsigned_abs (total zs) ≤ length zs * 2 ^ 64
total-size k zs h = size-between (length zs) (low k) (high k) (2 ^ 64) (total zs) (low-small k) (high-small k) (total-between k zs h)
