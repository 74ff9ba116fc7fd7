-- Outcomes of kinds have a short form.
use Rattle.std.proofs.Common.{◌≡◌, ◌&&◌, true, false, Bool}
use Rattle.lola_value.specs.declared.value.Kind.{Kind}
use Rattle.lola_value.specs.declared.value.Value.TheVariants as value
use Rattle.lola_value.specs.declared.value.Value.{Value}
use Rattle.lola_value.specs.declared.value.Outcome.{Outcome}
use Rattle.lola_value.specs.declared.value.Outcome.TheVariants as outcome
use Rattle.lola_value.specs.Arithmetic.{is_within}
use Rattle.lola_value.specs.Kinds.{is_integer, is_of_kind, is_outcome_of}
use Rattle.lola_value.specs.Shorts.{IsShort, IsShortValue}
use Rattle.lola_value.proofs.Ranges.{small}

second : (a b : Bool) → (a && b) ≡ true → b ≡ true
second true b h = h
second false b h = absurd (cc)

-- a value of a kind can be short
pub short_value_of_kind : (k : Kind) (v : Value) → is_of_kind k v ≡ true → IsShortValue v
short_value_of_kind k (value.Bool b) h = tt
short_value_of_kind k (value.Int z) h = let s = small k z (second (is_integer k) (is_within k z) h) in (s.low, s.high)
short_value_of_kind k (value.Text id) h = tt

-- an outcome of a kind can be short
pub short_of_kind : (k : Kind) (o : Outcome) → is_outcome_of k o ≡ true → IsShort o
short_of_kind k (outcome.Value v) h = short_value_of_kind k v h
short_of_kind k outcome.Missing h = tt
short_of_kind k (outcome.Fault f) h = tt
short_of_kind k outcome.Poison h = tt
