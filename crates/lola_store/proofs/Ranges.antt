-- The least and the greatest of numbers of a kind are of that kind, and numbers of a kind are small.
use Rattle.std.proofs.Common.{ℕ, zero, suc, ◌+◌, ◌≤◌, ◌<◌, List, [], ◌∷◌, length, map, refl, arith, ℤ, true, false, IsTrue, int_le, if◌then◌else◌, nat_lt, get_or}
use Rattle.std.proofs.lemmas.Int.{ints}
use Rattle.lola_value.specs.declared.text.Field.TheVariants as field
use Rattle.lola_model.specs.Windows.{lesser, greater, least_of, greatest_of}
use Rattle.lola_value.specs.declared.value.Kind.{Kind}
use Rattle.lola_value.specs.declared.value.Kind.TheVariants as kind
use Rattle.lola_value.specs.declared.value.Value.{Value}
use Rattle.lola_value.specs.declared.value.Value.TheVariants as value
use Rattle.lola_value.specs.Arithmetic.{is_within}
use Rattle.lola_value.specs.Kinds.{is_of_kind}
use Rattle.lola_panes.proofs.Ranges.{AllIn, value_in}
use Rattle.lola_store.specs.declared.tally.Timed.{Timed}
use Rattle.lola_store.specs.Tallies.{number_in, inside, AllOf, AllSmall, IsSmall}

lesser_within : (k : Kind) (a b : ℤ) → IsTrue (is_within k a) → IsTrue (is_within k b) → IsTrue (is_within k (lesser a b))
lesser_within k a b h g = elim (int_le a b) as (λ t. IsTrue (is_within k (if t then a else b))) [ true ↦ h | false ↦ g ]

greater_within : (k : Kind) (a b : ℤ) → IsTrue (is_within k a) → IsTrue (is_within k b) → IsTrue (is_within k (greater a b))
greater_within k a b h g = elim (int_le a b) as (λ t. IsTrue (is_within k (if t then b else a))) [ true ↦ g | false ↦ h ]

pub least_within : (k : Kind) (z : ℤ) (zs : List ℤ) → AllIn k (z ∷ zs) → IsTrue (is_within k (least_of z zs))
least_within k z [] h = h.0
least_within k z (y ∷ ys) h = lesser_within k z (least_of y ys) h.0 (least_within k y ys h.1)

pub greatest_within : (k : Kind) (z : ℤ) (zs : List ℤ) → AllIn k (z ∷ zs) → IsTrue (is_within k (greatest_of z zs))
greatest_within k z [] h = h.0
greatest_within k z (y ∷ ys) h = greater_within k z (greatest_of y ys) h.0 (greatest_within k y ys h.1)

-- the number of a value of a kind is within it
number_within : (k : Kind) (v : Value) → IsTrue (is_of_kind k v) → IsTrue (is_within k (number_in v))
number_within k (value.Bool b) h = value_in k (value.Bool b) (field.Bool b) h refl
number_within k (value.Text id) h = value_in k (value.Text id) (field.Bool false) h refl
number_within k (value.Int z) h = value_in k (value.Int z) (field.Int z) h refl

pub inside_within : (k : Kind) (over time : ℕ) (xs : List Timed) → AllOf k xs → AllIn k (map number_in (inside over time xs))
inside_within k over time [] h = tt
inside_within k over time (x ∷ xs) h =
    elim (nat_lt time (x.at + over)) as (λ b. AllIn k (map number_in (if b then x.item ∷ inside over time xs else inside over time xs))) [
      | true ↦ (number_within k x.item h.0, inside_within k over time xs h.1)
      | false ↦ inside_within k over time xs h.1
    ]

small_of : (k : Kind) (z : ℤ) → IsTrue (is_within k z) → IsSmall z
small_of kind.Bool z h = record { low = grind (arith, ints); high = grind (arith, ints) }
small_of kind.Text z h = record { low = grind (arith, ints); high = grind (arith, ints) }
small_of kind.Int8 z h = record { low = grind (arith, ints); high = grind (arith, ints) }
small_of kind.Int16 z h = record { low = grind (arith, ints); high = grind (arith, ints) }
small_of kind.Int32 z h = record { low = grind (arith, ints); high = grind (arith, ints) }
small_of kind.Int64 z h = record { low = grind (arith, ints); high = grind (arith, ints) }
small_of kind.UInt8 z h = record { low = grind (arith, ints); high = grind (arith, ints) }
small_of kind.UInt16 z h = record { low = grind (arith, ints); high = grind (arith, ints) }
small_of kind.UInt32 z h = record { low = grind (arith, ints); high = grind (arith, ints) }
small_of kind.UInt64 z h = record { low = grind (arith, ints); high = grind (arith, ints) }

-- values of a kind have small numbers
pub all_small : (k : Kind) (xs : List Timed) → AllOf k xs → AllSmall xs
all_small k [] h = tt
all_small k (x ∷ xs) h = (small_of k (number_in x.item) (number_within k x.item h.0), all_small k xs h.1)

pub small_at : (xs : List Timed) (i : ℕ) (d : Timed) → AllSmall xs → i < length xs → IsSmall (number_in (get_or xs i d).item)
small_at [] i d h l = absurd (omega arith)
small_at (x ∷ xs) zero d h l = h.0
small_at (x ∷ xs) (suc i) d h l = small_at xs i d h.1 (omega arith)

-- a window has no more values than there are
pub inside_length : (over time : ℕ) (xs : List Timed) → length (inside over time xs) ≤ length xs
inside_length over time [] = omega arith
inside_length over time (x ∷ xs) =
    let r = inside_length over time xs in
    elim (nat_lt time (x.at + over)) as (λ b. length (if b then x.item ∷ inside over time xs else inside over time xs) ≤ length (x ∷ xs)) [
      | true ↦ omega (arith, r)
      | false ↦ omega (arith, r)
    ]
