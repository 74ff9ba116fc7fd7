-- How a step ends: by the fault of its evaluation, or of its close clauses, or with its lines and what is left.
use Rattle.std.proofs.Common.{◌≡◌, ap, ◌∙◌, sym, ℕ, List, [], Some, None, Bool, true, false, ◌||◌, if◌then◌else◌, length, reverse}
use Rattle.lola_model.specs.Faults.{RowFault, row_fault, own_fault, first_with, or_else}
use Rattle.lola_model.specs.Graph.{nodes_of}
use Rattle.lola_model.specs.Model.{answered, has_fault, has_evaluation_fault, has_close_fault, closes_from}
use Rattle.lola_model.specs.Standing.{content_left}
use Rattle.lola_model.specs.Table.{Step, TableRow}
use Rattle.lola_model.specs.Texts.{row_lines, stream_lines}
use Rattle.lola_model.specs.declared.plan.Plan.{Plan}
use Rattle.lola_step_contents.specs.Ends.{evaluation_fault, closing_fault, closings, full_content, first_close_fault, closings_from, closed_each, IsFine, StepsEnd}
use Rattle.lola_step_contents.specs.Stages.{full_row}
use Rattle.lola_step_contents.proofs.Closings.{closes_leave}
use Rattle.lola_step_contents.proofs.Faults.{no_evaluation_fault, no_close_fault, of_closes, evaluation_kept, closing_fault_is}
use Rattle.lola_step_contents.proofs.Lines.{lines_of_values, lines_kept}
use Rattle.lola_step_contents.proofs.Quiet.{AreQuiet, quiet_asked, asked_at}

module _ (plan : Plan) (start : ℕ) (rows : List TableRow) (step : Step) where
  -- the row before its close clauses
  abbrev row : TableRow
  row = full_row plan start rows step

  -- the row with what its close clauses do
  abbrev closed_row : TableRow
  closed_row = record { step = row.step; streams = closes_from plan start rows row 0 plan.spec.streams row.streams }

  at_step : row.step ≡ step
  at_step = asked_at plan start rows step (length (nodes_of plan.spec))

  quiet : AreQuiet row.streams
  quiet = quiet_asked plan start rows step (length (nodes_of plan.spec))

  same_evaluation : first_with own_fault 0 closed_row.streams ≡ evaluation_fault plan start rows step
  same_evaluation = evaluation_kept plan start rows row 0 0 plan.spec.streams row.streams

  same_closing : first_with of_closes 0 closed_row.streams ≡ closing_fault plan start rows step
  same_closing =
      closing_fault_is plan start rows row 0 plan.spec.streams row.streams quiet
      ∙ ap (λ (t : Step). first_close_fault plan start rows t (full_content plan start rows step) 0 plan.spec.streams row.streams) at_step

  -- where no stream has a fault of its own, the close clauses are asked
  pub closes_asked : evaluation_fault plan start rows step ≡ None → answered plan start rows step ≡ closed_row
  closes_asked e = ap (λ b. if b then row else closed_row) (no_evaluation_fault 0 row.streams e)

  faults_by_evaluation : (f : RowFault) → evaluation_fault plan start rows step ≡ Some f → (b : Bool) → row_fault (if b then row else closed_row) ≡ Some f
  faults_by_evaluation f e true = ap (λ o. or_else o (first_with of_closes 0 row.streams)) e
  faults_by_evaluation f e false = ap (λ o. or_else o (first_with of_closes 0 closed_row.streams)) (same_evaluation ∙ e)

  fails_by_closing : (f : RowFault) → evaluation_fault plan start rows step ≡ None → closing_fault plan start rows step ≡ Some f → row_fault (answered plan start rows step) ≡ Some f
  fails_by_closing f e g =
      ap row_fault (closes_asked e)
      ∙ (ap (λ o. or_else o (first_with of_closes 0 closed_row.streams)) (same_evaluation ∙ e)
      ∙ (same_closing ∙ g))

  module _ (e : evaluation_fault plan start rows step ≡ None) (g : closing_fault plan start rows step ≡ None) where
    closed_fine : has_fault closed_row ≡ false
    closed_fine =
        ap (λ b. b || has_close_fault closed_row.streams) (no_evaluation_fault 0 closed_row.streams (same_evaluation ∙ e))
        ∙ no_close_fault 0 closed_row.streams (same_closing ∙ g)

    what_is_left : content_left start rows (answered plan start rows step) ≡ closed_each (full_content plan start rows step) (reverse (closings plan start rows step))
    what_is_left =
        ap (content_left start rows) (closes_asked e)
        ∙ (closes_leave plan start rows row quiet
        ∙ ap (λ (t : Step). closed_each (full_content plan start rows step) (reverse (closings_from plan start rows t (full_content plan start rows step) 0 plan.spec.streams row.streams))) at_step)

    is_fine : IsFine plan start rows step
    is_fine = record {
      fine = ap has_fault (closes_asked e) ∙ closed_fine;
      left = what_is_left;
      lines = λ show.
          ap (row_lines show plan.spec.streams) (closes_asked e)
          ∙ (ap (λ (b : Bool). if b then [] else stream_lines show row.step.time plan.spec.streams closed_row.streams) closed_fine
          ∙ (ap (λ (t : Step). stream_lines show t.time plan.spec.streams closed_row.streams) at_step
          ∙ (lines_kept show step.time plan start rows row 0 plan.spec.streams row.streams
          ∙ sym (lines_of_values show step.time plan.spec.streams row.streams))));
    }

-- each step ends by its first fault, or has none
pub each_step_ends : StepsEnd
each_step_ends plan start rows step = record {
  evaluation = λ f e. faults_by_evaluation plan start rows step f e (has_evaluation_fault (full_row plan start rows step).streams);
  closing = fails_by_closing plan start rows step;
  none = is_fine plan start rows step;
}
