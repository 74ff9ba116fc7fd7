-- Once all layers are done, so is the step.
use Rattle.std.proofs.Common.{◌≡◌, ap, ◌∙◌, sym, ℕ, ◌+◌, ◌<◌, inr, List, [], ◌∷◌, length, arith}
use Rattle.lola_model.specs.Acceptance.{IsAccepted}
use Rattle.lola_model.specs.Content.{content}
use Rattle.lola_model.specs.Graph.{eval_node, spawn_node, layer_of}
use Rattle.lola_model.specs.Table.{Step, StreamRow, TableRow}
use Rattle.lola_model.specs.declared.plan.Plan.{Plan}
use Rattle.lola_model.specs.declared.spec.Stream.{Stream}
use Rattle.lola_model.proofs.Rounds.{AllBelow, all_same, row_of}
use Rattle.lola_step_contents.specs.Nexts.{Completes}
use Rattle.lola_step_contents.specs.Stages.{content_so_far, layer_stage}
use Rattle.lola_step_contents.proofs.Agree.{agrees, rows_at}
use Rattle.lola_step_contents.proofs.Fixed.{full, full_is}

all_low : (rank : ℕ → ℕ) (d n : ℕ) (ss : List Stream) → ((m : ℕ) → rank m < d) → AllBelow rank d n ss
all_low rank d n [] h = tt
all_low rank d n (s ∷ ss) h = (h (eval_node n), inr (h (spawn_node n)), all_low rank d (n + 1) ss h)

-- what is seen at the end is the whole row
pub completes : (plan : Plan) → IsAccepted plan → (start : ℕ) (rows : List TableRow) (step : Step) → Completes plan start rows step
unfolding content_so_far
completes plan accepted start rows step = record {
  done = λ layer low.
      let count = length plan.spec.streams in
      let e : rows_at plan start rows step (layer_stage count layer) ≡ full plan start rows step =
      all_same (layer_of plan.layers) plan start rows step layer 0 plan.spec.streams _ _ (all_low (layer_of plan.layers) layer 0 plan.spec.streams low)
      (agrees plan start rows step accepted.acyclic (layer_stage count layer) (omega arith)) in
      ap (λ (ys : List StreamRow). content start rows (row_of step ys)) e ∙ ap (content start rows) (sym (full_is plan start rows step));
}
