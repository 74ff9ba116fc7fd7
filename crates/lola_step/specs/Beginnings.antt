-- The moment of a step that begins.
use Rattle.std.specs.Prelude.{ℕ, Bool, List, Some, None, if◌then◌else◌}
use Rattle.lola_value.specs.declared.value.Outcome.{Outcome}
use Rattle.lola_step.specs.Moments.{present_in}
use Rattle.lola_step.specs.declared.moment.Moment.{Moment}

-- at a row's step with the inputs that have a value, at a deadline's without
abbrev pub moment_at : ℕ → ℕ → Bool → List Outcome → Moment
moment_at start time is_row inputs = record { start = start; time = time; present = if is_row then Some (present_in inputs) else None }
