-- What is settled is a front of what is final; and where a settled step has a fault, it is all.
use Rattle.std.proofs.Common.{◌≡◌, ℕ, List, [], ◌++◌, Some, None, is_some, true, refl, sym, ap, ◌∙◌}
use Rattle.std.proofs.lemmas.List.{append-nil}
use Rattle.lola_model.specs.Table.{TableRow}
use Rattle.lola_model.specs.Model.{last_row}
use Rattle.lola_model.specs.Faults.{RunFault, fault_of_last}
use Rattle.lola_model.specs.Runs.{final_lines, first_fault, settled_fault, settled_lines, settled_model, whole_model}
use Rattle.lola_model.specs.Texts.{table_lines}
use Rattle.lola_model.specs.declared.journal.Entry.{Entry}
use Rattle.lola_model.proofs.Journals.{table_lines-append}
use Rattle.lola_monitor_run.specs.Verdicts.{Setting, fault_in, settled_fault_in, verdicts}
use Rattle.lola_model.proofs.Growing.{ended_by_fault, is_ended}
use Rattle.lola_model.proofs.RunFronts.{settled_is_front}

module _ (s : Setting) (journal : List Entry) where
  whole_front : (more : List TableRow) × (whole_model s.plan s.start journal ≡ settled_model s.plan s.start journal ++ more)
  whole_front = let w = settled_is_front s.plan s.start journal in (w.0, w.1)

  whole_stays : is_ended (settled_model s.plan s.start journal) ≡ true → whole_model s.plan s.start journal ≡ settled_model s.plan s.start journal
  whole_stays ended =
      let w = settled_is_front s.plan s.start journal in
      w.1 ∙ (ap (λ (t : List TableRow). settled_model s.plan s.start journal ++ t) (w.2 ended) ∙ append-nil (settled_model s.plan s.start journal))

  ended_by : (fault : RunFault) → settled_fault s.plan s.start journal ≡ Some fault → is_ended (settled_model s.plan s.start journal) ≡ true
  unfolding settled_fault
  ended_by fault is = sym (ended_by_fault (settled_model s.plan s.start journal)) ∙ ap is_some is

  -- the settled lines are a front of all
  pub lines_front : (more : List (List ℕ)) × (final_lines s.plan s.start journal s.show ≡ settled_lines s.plan s.start journal s.show ++ more)
  unfolding final_lines settled_lines
  lines_front =
      let w = whole_front in (
        table_lines s.show s.plan.spec.streams w.0,
        ap (table_lines s.show s.plan.spec.streams) w.1 ∙ table_lines-append s.show s.plan.spec.streams (settled_model s.plan s.start journal) w.0,
      )

  module _ (fault : RunFault) (is : settled_fault_in s journal ≡ Some fault) where
    pub lines_stay : final_lines s.plan s.start journal s.show ≡ settled_lines s.plan s.start journal s.show
    unfolding final_lines settled_lines
    lines_stay = ap (table_lines s.show s.plan.spec.streams) (whole_stays (ended_by fault is))

    -- where a settled step has a fault, that is the first
    pub fault_stays : fault_in s journal ≡ Some fault
    unfolding first_fault settled_fault
    fault_stays = ap (λ (t : List TableRow). fault_of_last (last_row t)) (whole_stays (ended_by fault is)) ∙ is

-- no row of a journal: no verdict and no fault
pub no_lines : (s : Setting) → settled_lines s.plan s.start [] s.show ≡ []
unfolding settled_lines settled_model
no_lines s = refl

pub nothing_final : (s : Setting) → verdicts s [] ≡ []
unfolding final_lines whole_model
nothing_final s = refl

pub nothing_faults : (s : Setting) → fault_in s [] ≡ None
unfolding first_fault whole_model
nothing_faults s = refl
