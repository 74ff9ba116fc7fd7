-- What a store has to know of each stream of a plan.
use Rattle.std.specs.Prelude.{ℕ, List, Some, None, true, false, slice_get, unwrap_or}
use Rattle.lola_value.specs.Ratio.{Ratio}
use Rattle.lola_model.specs.Model.{filled_kind}
use Rattle.lola_model.specs.NextStep.{local_rates}
use Rattle.lola_model.specs.Store.{StreamLayout}
use Rattle.lola_model.specs.declared.pacing.ClausePacings.{ClausePacings}
use Rattle.lola_model.specs.declared.spec.Stream.{Stream}

-- the layout of a stream that keeps so many values, with the rates of its clauses that count from births
abbrev pub stream_layout : Stream → ℕ → List Ratio → StreamLayout
stream_layout s kept locals =
    record { kind = filled_kind s; parameters = s.parameters; spawns = elim s.spawn [ None ↦ false | Some k ↦ true ]; kept = kept; locals = locals }

-- how many values the first of these streams keeps
abbrev pub first_kept : List ℕ → ℕ
first_kept kept = unwrap_or (slice_get kept 0) 1

-- the rates that count from births of the first of these streams
abbrev pub first_locals : List ClausePacings → List Ratio
first_locals pacings = local_rates (slice_get pacings 0)
