-- Outcomes of 16 bytes, and what they stand for.
use Rattle.std.specs.Prelude.{ℕ, ℤ, pos, negsuc, ◌≡◌, ◌≤ℤ◌, Bool, true, false, not, Option, Some, None}
use Rattle.std.proofs.Common.{refl, ◌∙◌}
use Rattle.lola_value.specs.declared.value.Kind.TheVariants as kind
use Rattle.lola_value.specs.declared.value.Value.{Value}
use Rattle.lola_value.specs.declared.value.Value.TheVariants as value
use Rattle.lola_value.specs.declared.value.Outcome.{Outcome}
use Rattle.lola_value.specs.declared.value.Outcome.TheVariants as outcome
use Rattle.lola_value.specs.declared.value.FaultKind.TheVariants as fault
use Rattle.lola_value.specs.Arithmetic.{is_within}
use Rattle.lola_value.specs.declared.short.Short.{Short}
use Rattle.lola_value.specs.declared.short.Short.TheVariants as short

-- the outcome that a short one stands for
abbrev pub widened : Short → Outcome
widened short.False = outcome.Value (value.Bool false)
widened short.True = outcome.Value (value.Bool true)
widened (short.Int z) = outcome.Value (value.Int z)
widened (short.Large n) = outcome.Value (value.Int (pos n))
widened (short.Text id) = outcome.Value (value.Text id)
widened short.Missing = outcome.Missing
widened short.Overflow = outcome.Fault fault.Overflow
widened short.DivZero = outcome.Fault fault.DivZero
widened short.TooManyInstances = outcome.Fault fault.TooManyInstances
widened short.Poison = outcome.Poison

-- the value that it is, and false where it is none
abbrev pub value_in : Short → Value
value_in short.True = value.Bool true
value_in (short.Int z) = value.Int z
value_in (short.Large n) = value.Int (pos n)
value_in (short.Text id) = value.Text id
value_in _ = value.Bool false

-- it is a value
abbrev pub has_value : Short → Bool
has_value short.Missing = false
has_value short.Overflow = false
has_value short.DivZero = false
has_value short.TooManyInstances = false
has_value short.Poison = false
has_value _ = true

-- how many a number is that is not below 0
abbrev pub count_in : ℤ → ℕ
count_in (pos n) = n
count_in (negsuc n) = 0

-- a number of 64 bits, by whether it is one with a sign
abbrev pub shortened_number : Bool → ℤ → Short
shortened_number true z = short.Int z
shortened_number false z = short.Large (count_in z)

-- the short form of a value
abbrev pub shortened_value : Value → Short
shortened_value (value.Bool true) = short.True
shortened_value (value.Bool false) = short.False
shortened_value (value.Int z) = shortened_number (is_within kind.Int64 z) z
shortened_value (value.Text id) = short.Text id

-- the short form of an outcome
abbrev pub shortened : Outcome → Short
shortened (outcome.Value v) = shortened_value v
shortened outcome.Missing = short.Missing
shortened (outcome.Fault fault.Overflow) = short.Overflow
shortened (outcome.Fault fault.DivZero) = short.DivZero
shortened (outcome.Fault fault.TooManyInstances) = short.TooManyInstances
shortened outcome.Poison = short.Poison

-- a number in short, by whether 64 bits hold it with a sign, and without one
abbrev pub short_by : Bool → Bool → ℤ → Option Short
short_by true large z = Some (short.Int z)
short_by false true z = Some (short.Large (count_in z))
short_by false false z = None

-- the short value that stands for a value; none for a number that no kind has
abbrev pub short_of : Value → Option Short
short_of (value.Bool true) = Some short.True
short_of (value.Bool false) = Some short.False
short_of (value.Int z) = short_by (is_within kind.Int64 z) (is_within kind.UInt64 z) z
short_of (value.Text id) = Some (short.Text id)

-- the same of an outcome
abbrev pub short_of_outcome : Outcome → Option Short
short_of_outcome (outcome.Value v) = short_of v
short_of_outcome o = Some (shortened o)

-- a value that can be short: a number is one of 64 bits, with or without a sign
abbrev pub IsShortValue : Value → Type 0
IsShortValue (value.Int z) = (negsuc 9223372036854775807 ≤ℤ z) × (z ≤ℤ pos 18446744073709551615)
IsShortValue _ = Unit {0}

-- the same of an outcome
abbrev pub IsShort : Outcome → Type 0
IsShort (outcome.Value v) = IsShortValue v
IsShort _ = Unit {0}

-- the number in it is one of 64 bits, and written without a sign only where it is above all that have one: so each outcome has one form
abbrev pub is_exact : Short → Bool
is_exact (short.Int z) = is_within kind.Int64 z
is_exact (short.Large n) = not (is_within kind.Int64 (pos n))
is_exact _ = true

-- an outcome that is a value
abbrev pub is_given : Outcome → Bool
is_given (outcome.Value v) = true
is_given _ = false

-- a number has one form
number_signed : (z : ℤ) (b : Bool) → is_within kind.Int64 z ≡ b → b ≡ true → shortened_number (is_within kind.Int64 z) z ≡ short.Int z
number_signed z b e h = rw (e ∙ h) refl

number_large : (n : ℕ) (b : Bool) → is_within kind.Int64 (pos n) ≡ b → not b ≡ true → shortened_number (is_within kind.Int64 (pos n)) (pos n) ≡ short.Large n
number_large n true e h = absurd (cc)
number_large n false e h = rw e refl

-- the one form of what an exact one stands for is itself
pub is_its_form : (x : Short) → is_exact x ≡ true → shortened (widened x) ≡ x
is_its_form short.False h = refl
is_its_form short.True h = refl
is_its_form (short.Int z) h = number_signed z (is_within kind.Int64 z) refl h
is_its_form (short.Large n) h = number_large n (is_within kind.Int64 (pos n)) refl h
is_its_form (short.Text id) h = refl
is_its_form short.Missing h = refl
is_its_form short.Overflow h = refl
is_its_form short.DivZero h = refl
is_its_form short.TooManyInstances h = refl
is_its_form short.Poison h = refl

-- the same of one that has a value
pub is_its_value : (x : Short) → is_exact x ≡ true → has_value x ≡ true → shortened_value (value_in x) ≡ x
is_its_value short.False h v = refl
is_its_value short.True h v = refl
is_its_value (short.Int z) h v = number_signed z (is_within kind.Int64 z) refl h
is_its_value (short.Large n) h v = number_large n (is_within kind.Int64 (pos n)) refl h
is_its_value (short.Text id) h v = refl
is_its_value short.Missing h v = absurd (cc)
is_its_value short.Overflow h v = absurd (cc)
is_its_value short.DivZero h v = absurd (cc)
is_its_value short.TooManyInstances h v = absurd (cc)
is_its_value short.Poison h v = absurd (cc)
