-- Operands of their kinds.
use Rattle.std.proofs.Common.{◌≡◌, ℤ, refl, Bool, true, false, ◌&&◌, ap, ◌∙◌, if◌then◌else◌, []}
use Rattle.std.proofs.lemmas.Bool.{and_from}
use Rattle.lola_value.specs.declared.value.Kind.{Kind}
use Rattle.lola_value.specs.declared.value.Kind.TheVariants as kind
use Rattle.lola_value.specs.declared.value.Value.{Value}
use Rattle.lola_value.specs.declared.value.Value.TheVariants as value
use Rattle.lola_value.specs.declared.value.Outcome.{Outcome}
use Rattle.lola_value.specs.declared.value.Outcome.TheVariants as outcome
use Rattle.lola_value.specs.declared.value.FaultKind.TheVariants as fault
use Rattle.lola_value.specs.declared.text.Field.TheVariants as field
use Rattle.lola_value.specs.Answer.{Answer, Given, Faulted}
use Rattle.lola_value.specs.Arithmetic.{is_within, within, divided, is_zero}
use Rattle.lola_value.specs.Kinds.{is_integer, is_bool, is_text, is_signed, is_of_kind, is_outcome_of}
use Rattle.lola_value.specs.Naming.{Naming, IsHeldIn, read, read_outcome}
use Rattle.lola_model.specs.Denotation.{on_numbers}
use Rattle.lola_expr.specs.Operands.{number_in, is_number, numbers_fit}

-- the first of two tests that pass
pub first : (a b : Bool) → (a && b) ≡ true → a ≡ true
first true b h = refl
first false b h = absurd (cc)

-- the second of them
pub second : (a b : Bool) → (a && b) ≡ true → b ≡ true
second true b h = h
second false b h = absurd (cc)

-- and_from of them

-- a kind of numbers is not that of texts
pub integer_not_text : (k : Kind) → is_integer k ≡ true → is_text k ≡ false
integer_not_text kind.Bool h = refl
integer_not_text kind.Text h = absurd (cc)
integer_not_text kind.Int8 h = refl
integer_not_text kind.Int16 h = refl
integer_not_text kind.Int32 h = refl
integer_not_text kind.Int64 h = refl
integer_not_text kind.UInt8 h = refl
integer_not_text kind.UInt16 h = refl
integer_not_text kind.UInt32 h = refl
integer_not_text kind.UInt64 h = refl

-- nor that of truth values
pub integer_not_bool : (k : Kind) → is_integer k ≡ true → is_bool k ≡ false
integer_not_bool kind.Bool h = absurd (cc)
integer_not_bool kind.Text h = refl
integer_not_bool kind.Int8 h = refl
integer_not_bool kind.Int16 h = refl
integer_not_bool kind.Int32 h = refl
integer_not_bool kind.Int64 h = refl
integer_not_bool kind.UInt8 h = refl
integer_not_bool kind.UInt16 h = refl
integer_not_bool kind.UInt32 h = refl
integer_not_bool kind.UInt64 h = refl

-- a kind with a sign is one of numbers
pub signed_integer : (k : Kind) → is_signed k ≡ true → is_integer k ≡ true
signed_integer kind.Bool h = absurd (cc)
signed_integer kind.Text h = absurd (cc)
signed_integer kind.Int8 h = refl
signed_integer kind.Int16 h = refl
signed_integer kind.Int32 h = refl
signed_integer kind.Int64 h = refl
signed_integer kind.UInt8 h = refl
signed_integer kind.UInt16 h = refl
signed_integer kind.UInt32 h = refl
signed_integer kind.UInt64 h = refl

-- an outcome of a kind that is no text needs no naming
pub held_by_kind : (k : Kind) → is_text k ≡ false → (r : Outcome) → is_outcome_of k r ≡ true → (names : Naming) → IsHeldIn names r
held_by_kind k t (outcome.Value (value.Bool b)) h names = tt
held_by_kind k t (outcome.Value (value.Int z)) h names = tt
held_by_kind k t (outcome.Value (value.Text id)) h names = absurd (cc)
held_by_kind k t outcome.Missing h names = tt
held_by_kind k t (outcome.Fault f) h names = tt
held_by_kind k t outcome.Poison h names = tt

-- what reads as a number within a kind is of that kind
within_kind : (k : Kind) → is_integer k ≡ true → (z : ℤ) (b : Bool) → is_within k z ≡ b → (r : Outcome) → read_outcome [] r ≡ (if b then Given (field.Int z) else Faulted fault.Overflow) → is_outcome_of k r ≡ true
within_kind k i z true w (outcome.Value (value.Bool x)) e = absurd (cc)
within_kind k i z true w (outcome.Value (value.Int x)) e = let q : x ≡ z = cc in and_from (is_integer k) (is_within k x) i (ap (is_within k) q ∙ w)
within_kind k i z true w (outcome.Value (value.Text id)) e = absurd (cc)
within_kind k i z true w outcome.Missing e = refl
within_kind k i z true w (outcome.Fault f) e = refl
within_kind k i z true w outcome.Poison e = refl
within_kind k i z false w (outcome.Value v) e = absurd (cc)
within_kind k i z false w outcome.Missing e = refl
within_kind k i z false w (outcome.Fault f) e = refl
within_kind k i z false w outcome.Poison e = refl

-- the same of a number that is tested
pub of_within : (k : Kind) → is_integer k ≡ true → (z : ℤ) (r : Outcome) → read_outcome [] r ≡ within k z → is_outcome_of k r ≡ true
of_within k i z r e = within_kind k i z (is_within k z) refl r e

-- the same where the divisor is tested
divided_kind : (k : Kind) → is_integer k ≡ true → (z : ℤ) (b : Bool) (r : Outcome) → read_outcome [] r ≡ (if b then Faulted fault.DivZero else within k z) → is_outcome_of k r ≡ true
divided_kind k i z true (outcome.Value v) e = absurd (cc)
divided_kind k i z true outcome.Missing e = refl
divided_kind k i z true (outcome.Fault f) e = refl
divided_kind k i z true outcome.Poison e = refl
divided_kind k i z false r e = of_within k i z r e

-- the same of a division
pub of_divided : (k : Kind) → is_integer k ≡ true → (z by : ℤ) (r : Outcome) → read_outcome [] r ≡ divided k z by → is_outcome_of k r ≡ true
of_divided k i z by r e = divided_kind k i z (is_zero by) r e

-- operands that are numbers
pub integer_is : (k : Kind) → is_integer k ≡ true → (a : Value) → is_of_kind k a ≡ true → is_number a ≡ true
integer_is k i (value.Bool x) h = absurd (let q : is_bool k ≡ false = integer_not_bool k i in cc)
integer_is k i (value.Int x) h = refl
integer_is k i (value.Text x) h = absurd (let q : is_text k ≡ false = integer_not_text k i in cc)

-- numbers are read as they are
pub on_numbers_read : (f : ℤ → ℤ → Answer) (names : Naming) (a b : Value) → is_number a ≡ true → is_number b ≡ true → f (number_in a) (number_in b) ≡ on_numbers f (read names a) (read names b)
on_numbers_read f names (value.Int x) (value.Int y) p q = refl
on_numbers_read f names (value.Int x) (value.Bool y) p q = absurd (cc)
on_numbers_read f names (value.Int x) (value.Text y) p q = absurd (cc)
on_numbers_read f names (value.Bool x) b p q = absurd (cc)
on_numbers_read f names (value.Text x) b p q = absurd (cc)

-- the parts of what operands fit
pub record NumbersFit (k : Kind) (a b : Value) : Type 0 where
  pub integer : is_integer k ≡ true
  pub left : is_number a ≡ true
  pub right : is_number b ≡ true

-- operands of arithmetic are numbers, of a kind of numbers
pub numbers : (k : Kind) (a b : Value) → numbers_fit k a b ≡ true → NumbersFit k a b
numbers k a b h =
    let i = first (is_integer k) (is_of_kind k a && is_of_kind k b) h in
    let g = second (is_integer k) (is_of_kind k a && is_of_kind k b) h in
    record {
      integer = i;
      left = integer_is k i a (first (is_of_kind k a) (is_of_kind k b) g);
      right = integer_is k i b (second (is_of_kind k a) (is_of_kind k b) g);
    }
