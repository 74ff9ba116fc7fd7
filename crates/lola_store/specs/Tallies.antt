-- The values that a window has, and what one pass over them finds.
use Rattle.std.specs.Prelude.{ℕ, ◌+◌, ◌^◌, ◌-◌, List, [], ◌∷◌, Option, Some, None, Bool, true, false, ◌&&◌, ◌||◌, if◌then◌else◌, nat_lt, ℤ, pos, ◌+ℤ◌, ◌≤ℤ◌, IsTrue, int_div, nat_eq}
use Rattle.lola_value.specs.declared.value.Kind.{Kind}
use Rattle.lola_value.specs.declared.value.Value.{Value}
use Rattle.lola_value.specs.declared.value.Value.TheVariants as value
use Rattle.lola_value.specs.declared.text.Field.{Field}
use Rattle.lola_value.specs.declared.value.FaultKind.TheVariants as fault
use Rattle.lola_value.specs.declared.value.Outcome.{Outcome}
use Rattle.lola_value.specs.declared.value.Outcome.TheVariants as outcome
use Rattle.lola_value.specs.Arithmetic.{is_within}
use Rattle.lola_value.specs.Kinds.{is_of_kind}
use Rattle.lola_value.specs.Naming.{Naming, read}
use Rattle.lola_model.specs.Windows.{lesser, greater}
use Rattle.lola_model.specs.declared.spec.Agg.{Agg}
use Rattle.lola_model.specs.declared.spec.Agg.TheVariants as agg
use Rattle.std.proofs.Props.{props}
use Rattle.lola_store.specs.declared.tally.Timed.{Timed}
use Rattle.lola_store.specs.declared.tally.Tally.{Tally}

-- a value with its time, its text read through a naming
abbrev pub read_timed : Naming → Timed → ℕ × Field
read_timed names v = (v.at, read names v.item)

-- the number of a value, 0 of one that is none
abbrev pub number_in : Value → ℤ
number_in (value.Int z) = z
number_in _ = pos 0

-- the truth of a value
abbrev pub truth_in : Value → Bool
truth_in (value.Bool b) = b
truth_in _ = false

-- the lesser of a number and the least so far
abbrev pub lower : Option ℤ → ℤ → ℤ
lower None z = z
lower (Some y) z = lesser y z

-- the greater of a number and the greatest so far
abbrev pub higher : Option ℤ → ℤ → ℤ
higher None z = z
higher (Some y) z = greater y z

-- of no values
abbrev pub empty : Tally
empty = record { many = 0; whole = pos 0; lowest = None; highest = None; every = true; any = false }

-- with one more
abbrev pub noted : Tally → Value → Tally
noted t v =
    record {
      many = t.many + 1;
      whole = t.whole +ℤ number_in v;
      lowest = Some (lower t.lowest (number_in v));
      highest = Some (higher t.highest (number_in v));
      every = t.every && truth_in v;
      any = t.any || truth_in v;
    }

-- with some more
abbrev pub tallied : Tally → List Value → Tally
tallied t [] = t
tallied t (v ∷ vs) = tallied (noted t v) vs

-- the values in the half-open window that ends now
abbrev pub inside : ℕ → ℕ → List Timed → List Value
inside over time [] = []
inside over time (x ∷ xs) = if nat_lt time (x.at + over) then x.item ∷ inside over time xs else inside over time xs

-- a number of some kind
pub record IsSmall (z : ℤ) : Type 0 where
  pub low : pos 0 ≤ℤ (z +ℤ pos (2 ^ 63))
  pub high : z ≤ℤ pos (2 ^ 64 - 1)

-- all numbers are of some kind
abbrev pub AllSmall : List Timed → Type 0
AllSmall [] = Unit {0}
AllSmall (x ∷ xs) = IsSmall (number_in x.item) × AllSmall xs

-- all values are of a kind
abbrev pub AllOf : Kind → List Timed → Type 0
AllOf k [] = Unit {0}
AllOf k (x ∷ xs) = IsTrue (is_of_kind k x.item) × AllOf k xs

-- this is said in at most one way
pub AllOf-prop : (k : Kind) (xs : List Timed) → IsProp (AllOf k xs)
AllOf-prop k [] = hlevel props
AllOf-prop k (x ∷ xs) = hlevel (props, AllOf-prop k xs)

-- a number, if there is one
abbrev pub number_or_missing : Option ℤ → Outcome
number_or_missing None = outcome.Missing
number_or_missing (Some z) = outcome.Value (value.Int z)

-- a sum, where its kind has it
abbrev pub within_kind : Kind → ℤ → Outcome
within_kind k z = if is_within k z then outcome.Value (value.Int z) else outcome.Fault fault.Overflow

-- the mean, cut toward zero
abbrev pub mean : Tally → Outcome
mean t = if nat_eq t.many 0 then outcome.Missing else outcome.Value (value.Int (int_div t.whole (pos t.many)))

-- the answer of an aggregation
abbrev pub answer : Agg → Kind → Tally → Outcome
answer agg.Count k t = outcome.Value (value.Int (pos t.many))
answer agg.Sum k t = within_kind k t.whole
answer agg.Min k t = number_or_missing t.lowest
answer agg.Max k t = number_or_missing t.highest
answer agg.Avg k t = mean t
answer agg.Forall k t = outcome.Value (value.Bool t.every)
answer agg.Exists k t = outcome.Value (value.Bool t.any)
