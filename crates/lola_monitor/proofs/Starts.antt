-- A start within the latest time is one that an engine takes.
use Rattle.std.proofs.Common.{ℕ, ◌≤◌, Option, None, Some, IfSome}
use Rattle.lola_value.specs.Times.{latest}
use Rattle.lola_engine.specs.Engines.{IsOptionInTime}

pub option_in_time : (start : Option ℕ) → IfSome start (λ t. t ≤ latest) → IsOptionInTime start
option_in_time None within = tt
option_in_time (Some t) within = within
