-- Numbers that are tested against their kind.
use Rattle.std.specs.Prelude.{ℤ, if◌then◌else◌}
use Rattle.lola_value.specs.declared.value.Kind.{Kind}
use Rattle.lola_value.specs.declared.value.Value.TheVariants as value
use Rattle.lola_value.specs.declared.value.Outcome.{Outcome}
use Rattle.lola_value.specs.declared.value.Outcome.TheVariants as outcome
use Rattle.lola_value.specs.declared.value.FaultKind.TheVariants as fault
use Rattle.lola_value.specs.Arithmetic.{is_within}

-- a number, and a fault where the kind lacks it
abbrev pub numbered : Kind → ℤ → Outcome
numbered k z = if is_within k z then outcome.Value (value.Int z) else outcome.Fault fault.Overflow
