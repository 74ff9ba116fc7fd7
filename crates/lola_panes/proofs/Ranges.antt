-- The least, the greatest and the mean of numbers of a kind are of that kind.
use Rattle.std.proofs.Common.{◌≡◌, ℕ, suc, ◌*◌, ◌/◌, ◌≤◌, List, [], ◌∷◌, ◌++◌, length, map, refl, sym, subst, arith, ℤ, pos, negsuc, ◌+ℤ◌, ◌≤ℤ◌, Bool, true, false, IsTrue, int_le, int_div, if◌then◌else◌}
use Rattle.std.specs.Prelude.{filter}
use Rattle.std.proofs.lemmas.Int.{ints}
use Rattle.std.proofs.Math.Nat.{div-le_of_le-mul}
use Rattle.lola_model.specs.declared.spec.Agg.{Agg}
use Rattle.lola_model.specs.declared.spec.Agg.TheVariants as agg
use Rattle.lola_model.specs.Windows.{total, number_of}
use Rattle.lola_value.specs.Kinds.{is_of_kind}
use Rattle.lola_value.specs.declared.value.Kind.{Kind}
use Rattle.lola_value.specs.declared.value.Kind.TheVariants as kind
use Rattle.lola_value.specs.declared.value.Value.{Value}
use Rattle.lola_value.specs.declared.value.Value.TheVariants as value
use Rattle.lola_value.specs.declared.text.Field.{Field}
use Rattle.lola_value.specs.declared.text.Field.TheVariants as field
use Rattle.lola_value.specs.Answer.{Answer, Given, Faulted}
use Rattle.lola_value.specs.declared.value.FaultKind.TheVariants as fault
use Rattle.lola_value.specs.Arithmetic.{within, is_within}
use Rattle.lola_panes.specs.Weights.{better, best_of, best_after, number_of_value}
use Rattle.lola_panes.specs.Holding.{AllWithin}

-- all numbers are within the kind
abbrev pub AllIn : Kind → List ℤ → Type 0
AllIn k [] = Unit {0}
AllIn k (z ∷ zs) = IsTrue (is_within k z) × AllIn k zs

-- a number within the kind passes its test
pub given : (k : Kind) (z : ℤ) → IsTrue (is_within k z) → within k z ≡ Given (field.Int z)
given k z h = again (is_within k z) (Given (field.Int z)) (Faulted fault.Overflow) h
  where
    again : (b : Bool) (x y : Answer) → b ≡ true → (if b then x else y) ≡ x
    again true x y h = refl
    again false x y h = cc

better_in : (how : Agg) (k : Kind) (a b : ℤ) → IsTrue (is_within k a) → IsTrue (is_within k b) → IsTrue (is_within k (better how a b))
better_in agg.Max k a b h g = elim (int_le a b) as (λ t. IsTrue (is_within k (if t then b else a))) [ true ↦ g | false ↦ h ]
better_in agg.Min k a b h g = elim (int_le a b) as (λ t. IsTrue (is_within k (if t then a else b))) [ true ↦ h | false ↦ g ]
better_in agg.Count k a b h g = elim (int_le a b) as (λ t. IsTrue (is_within k (if t then a else b))) [ true ↦ h | false ↦ g ]
better_in agg.Sum k a b h g = elim (int_le a b) as (λ t. IsTrue (is_within k (if t then a else b))) [ true ↦ h | false ↦ g ]
better_in agg.Avg k a b h g = elim (int_le a b) as (λ t. IsTrue (is_within k (if t then a else b))) [ true ↦ h | false ↦ g ]
better_in agg.Forall k a b h g = elim (int_le a b) as (λ t. IsTrue (is_within k (if t then a else b))) [ true ↦ h | false ↦ g ]
better_in agg.Exists k a b h g = elim (int_le a b) as (λ t. IsTrue (is_within k (if t then a else b))) [ true ↦ h | false ↦ g ]

pub best_in : (how : Agg) (k : Kind) (z : ℤ) (zs : List ℤ) → AllIn k (z ∷ zs) → IsTrue (is_within k (best_after how z (best_of how zs)))
best_in how k z [] h = h.0
best_in how k z (y ∷ ys) h = better_in how k z (best_after how y (best_of how ys)) h.0 (best_in how k y ys h.1)

-- a kind's range, as what is below 0 and above it

low : Kind → ℕ
low kind.Int8 = 128
low kind.Int16 = 32768
low kind.Int32 = 2147483648
low kind.Int64 = 9223372036854775808
low _ = 0

high : Kind → ℕ
high kind.Int8 = 127
high kind.Int16 = 32767
high kind.Int32 = 2147483647
high kind.Int64 = 9223372036854775807
high kind.UInt8 = 255
high kind.UInt16 = 65535
high kind.UInt32 = 4294967295
high kind.UInt64 = 18446744073709551615
high _ = 0

pub IsBetween : ℕ → ℕ → ℤ → Type 0
IsBetween l h z = (pos 0 ≤ℤ (z +ℤ pos l)) × (z ≤ℤ pos h)

to_between : (k : Kind) (z : ℤ) → IsTrue (is_within k z) → IsBetween (low k) (high k) z
unfolding low high IsBetween
to_between kind.Bool z h = grind (arith, ints)
to_between kind.Text z h = grind (arith, ints)
to_between kind.Int8 z h = grind (arith, ints)
to_between kind.Int16 z h = grind (arith, ints)
to_between kind.Int32 z h = grind (arith, ints)
to_between kind.Int64 z h = grind (arith, ints)
to_between kind.UInt8 z h = grind (arith, ints)
to_between kind.UInt16 z h = grind (arith, ints)
to_between kind.UInt32 z h = grind (arith, ints)
to_between kind.UInt64 z h = grind (arith, ints)

from_between : (k : Kind) (z : ℤ) → IsBetween (low k) (high k) z → IsTrue (is_within k z)
unfolding low high IsBetween
from_between kind.Bool z h = grind (arith, ints)
from_between kind.Text z h = grind (arith, ints)
from_between kind.Int8 z h = grind (arith, ints)
from_between kind.Int16 z h = grind (arith, ints)
from_between kind.Int32 z h = grind (arith, ints)
from_between kind.Int64 z h = grind (arith, ints)
from_between kind.UInt8 z h = grind (arith, ints)
from_between kind.UInt16 z h = grind (arith, ints)
from_between kind.UInt32 z h = grind (arith, ints)
from_between kind.UInt64 z h = grind (arith, ints)

-- so many times the least and the greatest bound a total, and the range bounds the mean
total_between : (k : Kind) (zs : List ℤ) → AllIn k zs → IsBetween (length zs * low k) (length zs * high k) (total zs)
unfolding IsBetween
total_between k [] h = (omega (arith, ints), omega (arith, ints))
total_between k (z ∷ zs) h =
    let on = total_between k zs h.1 in
    let a = to_between k z h.0 in
    (omega (arith, ints, on.0, a.0), omega (arith, ints, on.1, a.1))

pub quotient_between : (l h n : ℕ) (z : ℤ) → 1 ≤ n → IsBetween (n * l) (n * h) z → IsBetween l h (int_div z (pos n))
unfolding IsBetween
quotient_between l h n (pos a) g b =
    let u : a ≤ n * h = omega (arith, ints, b.1) in
    let q : a / n ≤ h = div-le_of_le-mul n u in
    (omega (arith, ints), omega (arith, ints, q))
quotient_between l h n (negsuc a) g b =
    let u : suc a ≤ n * l = omega (arith, ints, b.0) in
    let q : suc a / n ≤ l = div-le_of_le-mul n u in
    (omega (arith, ints, q), omega (arith, ints, q))

pub mean_in : (k : Kind) (z : ℤ) (zs : List ℤ) → AllIn k (z ∷ zs) → IsTrue (is_within k (int_div (total (z ∷ zs)) (pos (length (z ∷ zs)))))
mean_in k z zs h =
    from_between k (int_div (total (z ∷ zs)) (pos (length (z ∷ zs)))) (quotient_between (low k) (high k) (length (z ∷ zs)) (total (z ∷ zs)) (omega arith) (total_between k (z ∷ zs) h))

zero_in : (k : Kind) → IsTrue (is_within k (pos 0))
zero_in kind.Bool = refl
zero_in kind.Text = refl
zero_in kind.Int8 = refl
zero_in kind.Int16 = refl
zero_in kind.Int32 = refl
zero_in kind.Int64 = refl
zero_in kind.UInt8 = refl
zero_in kind.UInt16 = refl
zero_in kind.UInt32 = refl
zero_in kind.UInt64 = refl

number_in : (k : Kind) (z : ℤ) → IsTrue (is_of_kind k (value.Int z)) → IsTrue (is_within k z)
number_in kind.Bool z h = cc
number_in kind.Text z h = cc
number_in kind.Int8 z h = h
number_in kind.Int16 z h = h
number_in kind.Int32 z h = h
number_in kind.Int64 z h = h
number_in kind.UInt8 z h = h
number_in kind.UInt16 z h = h
number_in kind.UInt32 z h = h
number_in kind.UInt64 z h = h

-- a value of the kind has a number within it
pub value_in : (k : Kind) (v : Value) (f : Field) → IsTrue (is_of_kind k v) → number_of f ≡ number_of_value v → IsTrue (is_within k (number_of f))
value_in k (value.Bool b) f h e = subst (λ (z : ℤ). IsTrue (is_within k z)) (sym e) (zero_in k)
value_in k (value.Text id) f h e = subst (λ (z : ℤ). IsTrue (is_within k z)) (sym e) (zero_in k)
value_in k (value.Int z) f h e = subst (λ (z : ℤ). IsTrue (is_within k z)) (sym e) (number_in k z h)

pub AllWithin-more : (k : Kind) (vs : List (ℕ × Field)) (v : ℕ × Field) → AllWithin k vs → IsTrue (is_within k (number_of v.1)) → AllWithin k (vs ++ v ∷ [])
AllWithin-more k [] v h g = (g, tt)
AllWithin-more k (x ∷ vs) v h g = (h.0, AllWithin-more k vs v h.1 g)

pub AllIn-numbers : (k : Kind) (vs : List (ℕ × Field)) → AllWithin k vs → AllIn k (map number_of (map (λ v. v.1) vs))
AllIn-numbers k [] h = tt
AllIn-numbers k (v ∷ vs) h = (h.0, AllIn-numbers k vs h.1)

pub AllWithin-filter : (k : Kind) (f : (ℕ × Field) → Bool) (vs : List (ℕ × Field)) → AllWithin k vs → AllWithin k (filter f vs)
AllWithin-filter k f [] h = tt
AllWithin-filter k f (v ∷ vs) h =
    elim (f v) as (λ b. AllWithin k (if b then v ∷ filter f vs else filter f vs)) [
      | true ↦ (h.0, AllWithin-filter k f vs h.1)
      | false ↦ AllWithin-filter k f vs h.1
    ]
