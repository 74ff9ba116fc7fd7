-- What is said of kinds.
use Rattle.std.specs.Prelude.{nat_eq, nat_le, drop, int_le, ℕ, ℤ, ◌≡◌, Bool, true, false, not, ◌&&◌, List, [], ◌∷◌, Result, Ok, Err}
use Rattle.lola_value.specs.declared.value.Kind.{Kind}
use Rattle.lola_value.specs.declared.value.Kind.TheVariants as kind
use Rattle.lola_value.specs.declared.value.Value.{Value}
use Rattle.lola_value.specs.declared.value.Value.TheVariants as value
use Rattle.lola_value.specs.declared.value.FaultKind.{FaultKind}
use Rattle.lola_value.specs.declared.text.Field.TheVariants as field
use Rattle.lola_value.specs.Answer.{Answer, Given, Faulted}
use Rattle.lola_value.specs.declared.value.Outcome.{Outcome}
use Rattle.lola_value.specs.declared.value.Outcome.TheVariants as outcome
use Rattle.lola_value.specs.declared.value.Params.{Params}
use Rattle.lola_value.specs.Arithmetic.{is_within, bools_equal}
use Rattle.lola_value.specs.Naming.{the_values}

-- kinds of numbers
abbrev pub is_integer : Kind → Bool
is_integer kind.Bool = false
is_integer kind.Text = false
is_integer _ = true

-- the kind of truth values
abbrev pub is_bool : Kind → Bool
is_bool kind.Bool = true
is_bool _ = false

-- the kind of texts
abbrev pub is_text : Kind → Bool
is_text kind.Text = true
is_text _ = false

-- kinds of numbers that have negative ones
abbrev pub is_signed : Kind → Bool
is_signed kind.Int8 = true
is_signed kind.Int16 = true
is_signed kind.Int32 = true
is_signed kind.Int64 = true
is_signed _ = false

-- the number of a kind, to tell kinds apart
abbrev pub kind_number : Kind → ℕ
kind_number kind.Bool = 0
kind_number kind.Int8 = 1
kind_number kind.Int16 = 2
kind_number kind.Int32 = 3
kind_number kind.Int64 = 4
kind_number kind.UInt8 = 5
kind_number kind.UInt16 = 6
kind_number kind.UInt32 = 7
kind_number kind.UInt64 = 8
kind_number kind.Text = 9

-- what arithmetic comes to: a number, or a fault
abbrev pub calculated : Result ℤ FaultKind → Answer
calculated (Ok z) = Given (field.Int z)
calculated (Err k) = Faulted k

-- a number that a kind of numbers has
pub record IsOperand (k : Kind) (z : ℤ) : Type 0 where
  pub integer : is_integer k ≡ true
  pub within : is_within k z ≡ true

-- the same value, with texts by their numbers
abbrev pub values_same : Value → Value → Bool
values_same (value.Bool a) (value.Bool b) = bools_equal a b
values_same (value.Int a) (value.Int b) = int_le a b && int_le b a
values_same (value.Text a) (value.Text b) = nat_eq a.0 b.0
values_same _ _ = false

-- the same values, in order
abbrev pub all_same : List Value → List Value → Bool
all_same [] [] = true
all_same (a ∷ as') (b ∷ bs) = values_same a b && all_same as' bs
all_same _ _ = false

-- what a place holds that is not used
abbrev pub is_unused : Value → Bool
is_unused (value.Bool b) = not b
is_unused _ = false

-- none of these places is used
abbrev pub all_unused : List Value → Bool
all_unused [] = true
all_unused (v ∷ vs) = is_unused v && all_unused vs

-- the same parameters, whatever the unused places hold
abbrev pub same_params : Params → Params → Bool
same_params p q = all_same (the_values p) (the_values q)

-- at most four parameters, and `false` in the places that are not used: so places are equal exactly where
-- parameters are
abbrev pub is_well_formed : Params → Bool
is_well_formed p = nat_le p.count 4 && all_unused (drop p.count (p.at0 ∷ p.at1 ∷ p.at2 ∷ p.at3 ∷ []))

-- a value of a kind
abbrev pub is_of_kind : Kind → Value → Bool
is_of_kind k (value.Bool b) = is_bool k
is_of_kind k (value.Int z) = is_integer k && is_within k z
is_of_kind k (value.Text id) = is_text k

-- as many values as kinds, each of its kind
abbrev pub are_of_kinds : List Kind → List Value → Bool
are_of_kinds [] [] = true
are_of_kinds (k ∷ ks) (v ∷ vs) = is_of_kind k v && are_of_kinds ks vs
are_of_kinds _ _ = false

-- an outcome that is a value of this kind, or no value
abbrev pub is_outcome_of : Kind → Outcome → Bool
is_outcome_of k (outcome.Value v) = is_of_kind k v
is_outcome_of k _ = true
