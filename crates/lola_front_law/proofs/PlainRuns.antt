-- Which step comes next and which tables are models, whatever the addresses of boxes.
use mathlib.Core.Path.{fun_ext}
use Rattle.std.proofs.Common.{◌≡◌, refl, ap, ap₂, ◌∙◌, ℕ, zero, suc, ◌+◌, List, [], ◌∷◌, ◌++◌, Option, Some, None, true, false, map, slice_get, length}
use Rattle.lola_model.specs.Journal.{accepted}
use Rattle.lola_model.specs.Model.{GoesOn, has_fault, in_order, IsModel, last_row, made, model, Next}
use Rattle.lola_model.specs.NextStep.{after_last, due, due_of_instances, due_of_streams, earlier, first_due, local_rates, most_steps, next_below, next_settled, next_step, open_from, rows_taken, step_before}
use Rattle.lola_model.specs.Runs.{IsSettledModel, IsWholeModel, run_start, settled_model, whole_model}
use Rattle.lola_model.specs.Steps.{rates_of}
use Rattle.lola_model.specs.Table.{Instance, Step, TableRow}
use Rattle.lola_model.specs.declared.journal.Entry.{Entry}
use Rattle.lola_model.specs.declared.journal.Row.{Row}
use Rattle.lola_model.specs.declared.plan.Plan.{Plan}
use Rattle.lola_model.specs.declared.spec.Stream.{Stream}
use Rattle.lola_front_law.specs.Alike.{plain_plan, plain_stream}
use Rattle.lola_front_law.proofs.PlainRows.{same_answered, same_row, same_survivors}

-- ---- which step comes next

module _ (plan : Plan) (table : List TableRow) where
  same_dues : (n : ℕ) (ss : List Stream) → due_of_streams (plain_plan plan) table n (map plain_stream ss) ≡ due_of_streams plan table n ss
  same_dues n [] = refl
  same_dues n (s ∷ ss) =
      ap₂ (λ (is : List Instance) (rest : Option ℕ). earlier (due_of_instances plan table (local_rates (slice_get plan.pacings n)) is) rest)
      (same_survivors n s (last_row table)) (same_dues (n + 1) ss)

  pub same_due : (start : ℕ) → due (plain_plan plan) table start ≡ due plan table start
  same_due start = ap (λ (rest : Option ℕ). earlier (first_due start (rates_of plan.pacings) (open_from (last_row table))) rest) (same_dues 0 plan.spec.streams)

module _ (plan : Plan) (start : ℕ) (rows : List Row) where
  same_below : (limit : ℕ) (table : List TableRow) → next_below (plain_plan plan) start rows limit table ≡ next_below plan start rows limit table
  same_below limit table = ap (step_before (slice_get rows (rows_taken table)) limit) (same_due plan table start)

  pub same_step : next_step (plain_plan plan) start rows ≡ next_step plan start rows
  same_step = fun_ext (same_below (after_last rows))

  pub same_settled_step : next_settled (plain_plan plan) start rows ≡ next_settled plan start rows
  same_settled_step = fun_ext (same_below 0)

-- ---- the table that is made

-- the rows from a step on, if one comes: its row, and more unless that has a fault
abbrev from_step : (Step → TableRow) → (TableRow → List TableRow) → Option Step → List TableRow
from_step answer more o =
    elim o [
      | None ↦ []
      | Some step ↦
          let row = answer step in
          elim (has_fault row) [ true ↦ row ∷ [] | false ↦ row ∷ more row ]
    ]

module _ (plan : Plan) (start : ℕ) (next : Next) where
  pub same_made : (most : ℕ) (rows : List TableRow) → made (plain_plan plan) start next most rows ≡ made plan start next most rows
  same_made zero rows = refl
  same_made (suc most) rows =
      ap₂ (λ (answer : Step → TableRow) (more : TableRow → List TableRow). from_step answer more (next rows))
      (fun_ext (same_answered plan start rows)) (fun_ext (λ row. same_made most (rows ++ row ∷ [])))

  -- ---- the tables that solve the equations

  pub same_goes : (rows table : List TableRow) → GoesOn (plain_plan plan) start next rows table ≡ GoesOn plan start next rows table
  same_goes rows [] = refl
  same_goes rows (row ∷ more) =
      ap₂ (λ (r : TableRow) (Rest : Type 0). (next rows ≡ Some row.step) × (row ≡ r) × elim (has_fault row) as (λ b. Type 0) [ true ↦ more ≡ [] | false ↦ Rest ])
      (same_row plan start rows row.step row) (same_goes (rows ++ row ∷ []) more)

-- over a list of steps
pub same_model : (plan : Plan) (start : ℕ) (steps : List Step) → model (plain_plan plan) start steps ≡ model plan start steps
unfolding model
same_model plan start steps = same_made plan start (in_order steps) (length steps) []

-- over a journal
module _ (plan : Plan) (start : Option ℕ) (journal : List Entry) where
  pub same_whole : whole_model (plain_plan plan) start journal ≡ whole_model plan start journal
  unfolding whole_model
  same_whole =
      let begin = run_start plan start journal in
      let rows = accepted journal in
      same_made plan begin (next_step (plain_plan plan) begin rows) (most_steps (after_last rows) 0 rows) []
      ∙ ap (λ (next : Next). made plan begin next (most_steps (after_last rows) 0 rows) []) (same_step plan begin rows)

  pub same_settled : settled_model (plain_plan plan) start journal ≡ settled_model plan start journal
  unfolding settled_model
  same_settled =
      let begin = run_start plan start journal in
      let rows = accepted journal in
      same_made plan begin (next_settled (plain_plan plan) begin rows) (most_steps 0 0 rows) []
      ∙ ap (λ (next : Next). made plan begin next (most_steps 0 0 rows) []) (same_settled_step plan begin rows)

  pub same_whole_models : (table : List TableRow) → IsWholeModel (plain_plan plan) start journal table ≡ IsWholeModel plan start journal table
  same_whole_models table =
      let begin = run_start plan start journal in
      let rows = accepted journal in
      same_goes plan begin (next_step (plain_plan plan) begin rows) [] table ∙ ap (λ (next : Next). IsModel plan begin next table) (same_step plan begin rows)

  pub same_settled_models : (table : List TableRow) → IsSettledModel (plain_plan plan) start journal table ≡ IsSettledModel plan start journal table
  same_settled_models table =
      let begin = run_start plan start journal in
      let rows = accepted journal in
      same_goes plan begin (next_settled (plain_plan plan) begin rows) [] table ∙ ap (λ (next : Next). IsModel plan begin next table) (same_settled_step plan begin rows)
