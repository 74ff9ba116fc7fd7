-- Short outcomes and the wide ones that they stand for.
use Rattle.std.proofs.Common.{◌≡◌, IfSome, Option, Some, None, ℤ, pos, negsuc, refl, sym, ap, ◌∙◌, subst, Bool, true, false, if◌then◌else◌, []}
use Rattle.lola_value.specs.declared.value.Kind.{Kind}
use Rattle.lola_value.specs.declared.value.Kind.TheVariants as kind
use Rattle.lola_value.specs.declared.value.Value.{Value}
use Rattle.lola_value.specs.declared.value.Value.TheVariants as value
use Rattle.lola_value.specs.declared.value.Outcome.{Outcome}
use Rattle.lola_value.specs.declared.value.Outcome.TheVariants as outcome
use Rattle.lola_value.specs.declared.value.FaultKind.TheVariants as fault
use Rattle.lola_value.specs.declared.text.Field.TheVariants as field
use Rattle.lola_value.specs.Answer.{Given, Faulted}
use Rattle.lola_value.specs.Arithmetic.{is_within, within}
use Rattle.lola_value.specs.Kinds.{is_integer}
use Rattle.lola_value.specs.Naming.{Naming, IsHeldIn, read_outcome}
use Rattle.lola_model.specs.Denotation.{operated}
use Rattle.lola_model.specs.declared.expr.Binary.{Binary}
use Rattle.lola_value.specs.Shorts.{has_value, short_by, short_of, value_in, widened}
use Rattle.lola_expr.specs.Machine.{Operates}
use Rattle.lola_expr.specs.Numbered.{numbered}
use Rattle.lola_expr.proofs.OperandLemmas.{of_within}
use Rattle.lola_value.specs.declared.short.Short.{Short}
use Rattle.lola_value.specs.declared.short.Short.TheVariants as short

-- a value is what it stands for
pub is_the_value : (s : Short) → has_value s ≡ true → widened s ≡ outcome.Value (value_in s)
is_the_value short.False h = refl
is_the_value short.True h = refl
is_the_value (short.Int z) h = refl
is_the_value (short.Large n) h = refl
is_the_value (short.Text id) h = refl
is_the_value short.Missing h = absurd (cc)
is_the_value short.Overflow h = absurd (cc)
is_the_value short.DivZero h = absurd (cc)
is_the_value short.TooManyInstances h = absurd (cc)
is_the_value short.Poison h = absurd (cc)

-- and what is no value stands for none
pub is_no_value : (s : Short) → has_value s ≡ false → (v : Value) → widened s ≡ outcome.Value v → ⊥
is_no_value short.False h v e = absurd (cc)
is_no_value short.True h v e = absurd (cc)
is_no_value (short.Int z) h v e = absurd (cc)
is_no_value (short.Large n) h v e = absurd (cc)
is_no_value (short.Text id) h v e = absurd (cc)
is_no_value short.Missing h v e = absurd (cc)
is_no_value short.Overflow h v e = absurd (cc)
is_no_value short.DivZero h v e = absurd (cc)
is_no_value short.TooManyInstances h v e = absurd (cc)
is_no_value short.Poison h v e = absurd (cc)

-- the short value of a value stands for it
pub is_wide : (v : Value) (s : Short) → short_of v ≡ Some s → widened s ≡ outcome.Value v
is_wide (value.Bool true) s h = let e : short.True ≡ s = cc in ap widened (sym e)
is_wide (value.Bool false) s h = let e : short.False ≡ s = cc in ap widened (sym e)
is_wide (value.Text id) s h = let e : short.Text id ≡ s = cc in ap widened (sym e)
is_wide (value.Int z) s h = by_hand (is_within kind.Int64 z) (is_within kind.UInt64 z) z refl h
  where
    by_hand : (w l : Bool) (z : ℤ) → is_within kind.UInt64 z ≡ l → short_by w l z ≡ Some s → widened s ≡ outcome.Value (value.Int z)
    by_hand true l z q h = let e : short.Int z ≡ s = cc in ap widened (sym e)
    by_hand false true (pos n) q h = let e : short.Large n ≡ s = cc in ap widened (sym e)
    by_hand false true (negsuc n) q h = absurd (cc)
    by_hand false false z q h = absurd (cc)

-- a number that is tested reads as one
numbered_by : (names : Naming) (z : ℤ) (b : Bool) → read_outcome names (if b then outcome.Value (value.Int z) else outcome.Fault fault.Overflow) ≡ (if b then Given (field.Int z) else Faulted fault.Overflow)
numbered_by names z true = refl
numbered_by names z false = refl

pub numbered_reads : (names : Naming) (k : Kind) (z : ℤ) → read_outcome names (numbered k z) ≡ within k z
numbered_reads names k z = numbered_by names z (is_within k z)

held_by : (names : Naming) (z : ℤ) (b : Bool) → IsHeldIn names (if b then outcome.Value (value.Int z) else outcome.Fault fault.Overflow)
held_by names z true = tt
held_by names z false = tt

-- an operator that gives a number that is tested
pub gives_number : (operator : Binary) (k : Kind) (a b z : ℤ) (r : Outcome) → is_integer k ≡ true → operated operator k (field.Int a) (field.Int b) ≡ within k z → r ≡ numbered k z
    → Operates operator k (value.Int a) (value.Int b) r
gives_number operator k a b z r i e q =
    let reads : (names : Naming) → read_outcome names r ≡ within k z = λ names. ap (read_outcome names) q ∙ numbered_reads names k z in
    record {
      value = λ names n p h. reads names ∙ sym e;
      held = λ names h. subst (λ (o : Outcome). IsHeldIn names o) (sym q) (held_by names z (is_within k z));
      kind = of_within k i z r (reads []);
    }

-- what stands for a value is it
pub the_value : (s : Short) (v : Value) → widened s ≡ outcome.Value v → value_in s ≡ v
the_value short.False v e = cc
the_value short.True v e = cc
the_value (short.Int z) v e = cc
the_value (short.Large n) v e = cc
the_value (short.Text id) v e = cc
the_value short.Missing v e = absurd (cc)
the_value short.Overflow v e = absurd (cc)
the_value short.DivZero v e = absurd (cc)
the_value short.TooManyInstances v e = absurd (cc)
the_value short.Poison v e = absurd (cc)

-- what is not missing stands for something else
pub not_missing : (s : Short) → (s ≡ short.Missing → ⊥) → widened s ≡ outcome.Missing → ⊥
not_missing short.False ne e = absurd (cc)
not_missing short.True ne e = absurd (cc)
not_missing (short.Int z) ne e = absurd (cc)
not_missing (short.Large n) ne e = absurd (cc)
not_missing (short.Text id) ne e = absurd (cc)
not_missing short.Missing ne e = ne refl
not_missing short.Overflow ne e = absurd (cc)
not_missing short.DivZero ne e = absurd (cc)
not_missing short.TooManyInstances ne e = absurd (cc)
not_missing short.Poison ne e = absurd (cc)

-- the same of two short numbers, by an answer that may be none
pub if_number : (f : ℤ → ℤ → ℤ) (operator : Binary) (k : Kind) (x y : Short) (a b c d : ℤ) (o : Option Short) → x ≡ short.Int a → y ≡ short.Int b → c ≡ a → d ≡ b → is_integer k ≡ true
    → operated operator k (field.Int a) (field.Int b) ≡ within k (f a b) → IfSome o (λ r. widened r ≡ numbered k (f c d)) → IfSome o (λ r. Operates operator k (value_in x) (value_in y) (widened r))
if_number f operator k x y a b c d None p q t u i e h = h
if_number f operator k x y a b c d (Some r) p q t u i e h =
    let same : widened r ≡ numbered k (f a b) = h ∙ (ap (λ c. numbered k (f c d)) t ∙ ap (λ d. numbered k (f a d)) u) in
    let made : Operates operator k (value.Int a) (value.Int b) (widened r) = gives_number operator k a b (f a b) (widened r) i e same in
    let left : Operates operator k (value_in x) (value.Int b) (widened r) = subst (λ v. Operates operator k v (value.Int b) (widened r)) (sym (ap value_in p)) made in
    subst (λ v. Operates operator k (value_in x) v (widened r)) (sym (ap value_in q)) left
