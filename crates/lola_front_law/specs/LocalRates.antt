-- Which rates a store has for the local rates of a stream.
use Rattle.std.specs.Prelude.{ℕ, ◌≡◌, ◌⊎◌, ◌↔◌, Option, Some, None, slice_get, Contains}
use Rattle.lola_value.specs.Ratio.{Ratio}
use Rattle.lola_model.specs.Dues.{locals_of}
use Rattle.lola_model.specs.Store.{Seen, layout_of}
use Rattle.lola_model.specs.declared.pacing.ClausePacings.{ClausePacings}
use Rattle.lola_model.specs.declared.pacing.Pacing.TheVariants.{Local}
use Rattle.lola_model.specs.declared.plan.Plan.{Plan}
use Rattle.lola_model.specs.declared.spec.Stream.{Stream}
use Rattle.lola_front_law.specs.LocalDues.{HasLocalRates}

-- a clause of a stream has this local rate
abbrev pub IsLocalRate : Option ClausePacings → Ratio → Type 0
IsLocalRate None r = ⊥
IsLocalRate (Some c) r = (c.spawn ≡ Some (Local r)) ⊎ ((c.eval ≡ Some (Local r)) ⊎ (c.close ≡ Some (Local r)))

-- a store that is made for the plan has for each stream the local rates of its clauses, and all are above 0
pub record HasLocalRatesOf (plan : Plan) : Type 0 where
  pub rates : (s : Seen) → s.layout ≡ layout_of plan → HasLocalRates s
  pub are : (stream : ℕ) (of : Stream) → slice_get plan.spec.streams stream ≡ Some of → (r : Ratio)
      → Contains (locals_of (slice_get (layout_of plan).streams stream)) r ↔ IsLocalRate (slice_get plan.pacings stream) r
