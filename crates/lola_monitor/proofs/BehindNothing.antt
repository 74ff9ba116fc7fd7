-- What is said of rows behind a journal, where that is empty: the rows are a run's own.
use Rattle.std.proofs.Common.{◌≡◌, ℕ, ◌-◌, List, [], ◌++◌, length, refl, sym, ap, ◌∙◌, subst, arith}
use Rattle.lola_port.specs.States.{PutBroke, SinkState, grown}
use Rattle.lola_model.specs.Faults.{RunFault}
use Rattle.lola_model.specs.Journal.{accepted, opening_time}
use Rattle.lola_model.specs.Runs.{final_lines, settled_lines, settled_model, whole_model}
use Rattle.lola_model.specs.declared.journal.Entry.{Entry}
use Rattle.lola_report.specs.declared.end.EndLine.TheVariants.{Done}
use Rattle.lola_monitor_run.specs.Behind.{HasFrontBehind, IsBehind, IsCutAtDeadlineBehind, IsCutAtRowBehind, IsRowFaultBehind}
use Rattle.lola_monitor_run.specs.Running.{Keeping, setting_in}
use Rattle.lola_monitor_run.specs.Verdicts.{HasFront, IsCutAtDeadline, IsCutAtRow, IsRowFault, Setting, late_count}
use Rattle.lola_monitor_run.proofs.Fronts.{no_lines}
use Rattle.lola_monitor_run.proofs.TextsBehind.{settled_first, verdicts_first}
use Rattle.lola_monitor.specs.Monitor.{done_line}
use Rattle.lola_monitor.specs.Pasts.{done_line_behind}

no_steps : (s : Setting) → settled_model s.plan s.start [] ≡ []
unfolding settled_model
no_steps s = refl

all_left : (n : ℕ) → n - 0 ≡ n
all_left n = omega arith

-- a run that begins anew has come to where its time begins
pub begins_anew : (kept : Keeping) (s : Setting) → IsBehind [] [] kept → setting_in kept ≡ s → opening_time s.start ≡ kept.state.merged
begins_anew kept s stands set = ap (λ (t : Setting). opening_time t.start) (sym set) ∙ sym stands.engine.merged

module _ (s : Setting) (journal : List Entry) where
  pub row_fault_first : (fault : RunFault) → IsRowFaultBehind s [] journal fault → IsRowFault s journal fault
  row_fault_first fault r = record { front = r.front; row = r.row; whole = r.whole; none_before = r.none_before; settled = r.settled }

  pub cut_at_row_first : (old new : SinkState) → IsCutAtRowBehind s [] old new journal → IsCutAtRow s old new journal
  cut_at_row_first old new c = record {
    front = c.front;
    row = c.row;
    whole = c.whole;
    brings = c.brings;
    joined = sym (settled_first s journal) ∙ (c.joined ∙ ap (λ (t : List ℕ). t ++ c.brings) (settled_first s c.front));
    more = c.more;
    all = sym (verdicts_first s journal) ∙ (c.all ∙ ap (λ (t : List ℕ). t ++ c.more) (settled_first s journal));
    cut = subst (λ (t : List ℕ). PutBroke (grown old t) new c.brings) (settled_first s c.front) c.cut;
  }

  pub cut_at_deadline_first : (old new : SinkState) → IsCutAtDeadlineBehind s [] old new journal → IsCutAtDeadline s old new journal
  cut_at_deadline_first old new c = record {
    brings = c.brings;
    joined = sym (verdicts_first s journal) ∙ (c.joined ∙ ap (λ (t : List ℕ). t ++ c.brings) (settled_first s journal));
    cut = subst (λ (t : List ℕ). PutBroke (grown old t) new c.brings) (settled_first s journal) c.cut;
  }

  pub has_front_first : (old new : SinkState) → HasFrontBehind s [] old new journal → HasFront s old new journal
  has_front_first old new h = record {
    front = h.front;
    last = h.last;
    whole = h.whole;
    few = h.few;
    more = h.more;
    joined = sym (verdicts_first s journal) ∙ (h.joined ∙ ap (λ (t : List ℕ). t ++ h.more) (settled_first s h.front));
    put = h.put ∙ ap (grown old) (settled_first s h.front);
  }

  -- all steps and lines are its own
  pub done_first : done_line_behind s [] journal ≡ done_line s journal
  done_first =
      let steps = length (whole_model s.plan s.start journal) in
      let lines = length (final_lines s.plan s.start journal s.show) in
      ap (λ (n : ℕ). Done (length (accepted journal)) (late_count journal) (steps - n) (lines - length (settled_lines s.plan s.start [] s.show))) (ap length (no_steps s))
      ∙ (ap (λ (n : ℕ). Done (length (accepted journal)) (late_count journal) (steps - 0) (lines - n)) (ap length (no_lines s))
      ∙ (ap (λ (n : ℕ). Done (length (accepted journal)) (late_count journal) n (lines - 0)) (all_left steps)
      ∙ ap (λ (n : ℕ). Done (length (accepted journal)) (late_count journal) steps n) (all_left lines)))
