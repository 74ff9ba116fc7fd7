-- A row before its close clauses: it closes nothing and has no fault of a close clause.
use Rattle.std.proofs.Common.{◌≡◌, refl, ℕ, zero, suc, ◌+◌, List, [], ◌∷◌, if◌then◌else◌}
use Rattle.lola_model.specs.Model.{is_input, outcomes_from, unknown_from, asked}
use Rattle.lola_model.specs.Table.{Step, StreamRow, TableRow}
use Rattle.lola_model.specs.declared.plan.Plan.{Plan}
use Rattle.lola_model.specs.declared.spec.Stream.{Stream}

-- rows of streams without closes
abbrev pub AreQuiet : List StreamRow → Type 0
AreQuiet [] = Unit {0}
AreQuiet (y ∷ ys) = (y.closed ≡ []) × (y.close_faults ≡ []) × AreQuiet ys

module _ (plan : Plan) (start : ℕ) (rows : List TableRow) (step : Step) where
  quiet_outcomes : (row : TableRow) (n i : ℕ) (ss : List Stream) → AreQuiet (outcomes_from plan start rows step row n i ss)
  quiet_outcomes row n i [] = tt
  quiet_outcomes row n i (s ∷ ss) = (refl, refl, quiet_outcomes row (n + 1) (if is_input s then i + 1 else i) ss)

  quiet_unknown : (n : ℕ) (ss : List Stream) → AreQuiet (unknown_from plan start rows step n ss)
  quiet_unknown n [] = tt
  quiet_unknown n (s ∷ ss) = (refl, refl, quiet_unknown (n + 1) ss)

  -- however deep questions were nested
  pub quiet_asked : (depth : ℕ) → AreQuiet (asked plan start rows step depth).streams
  quiet_asked zero = quiet_unknown 0 plan.spec.streams
  quiet_asked (suc depth) = quiet_outcomes (asked plan start rows step depth) 0 0 plan.spec.streams

  -- and the row is one of this step
  pub asked_at : (depth : ℕ) → (asked plan start rows step depth).step ≡ step
  asked_at zero = refl
  asked_at (suc depth) = refl
