-- Rates that have the deadlines of others.
use Rattle.std.specs.Prelude.{ℕ, ◌≡◌, List}
use Rattle.lola_value.specs.Ratio.{Ratio}
use Rattle.lola_model.specs.StepOrder.{AreRates}
use Rattle.lola_model.specs.Steps.{first_after}

-- behind each moment the first deadline of these rates is that of all, and they are rates where all are
pub record HaveDeadlinesOf (all rates : List Ratio) : Type 0 where
  pub first : (t : ℕ) → first_after rates t ≡ first_after all t
  pub are_rates : AreRates all → AreRates rates
