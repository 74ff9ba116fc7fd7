-- The settled model of a front of a journal is a front of the whole journal's, and is the whole one where it ends with a fault.
use Rattle.std.proofs.Common.{◌≡◌, refl, ap, sym, ◌∙◌, ℕ, zero, suc, ◌≤◌, List, [], ◌∷◌, ◌++◌, Option, Some, None, is_some, true, arith, append-nil}
use Rattle.std.proofs.lemmas.Bool.{le-ltb}
use Rattle.std.specs.List.{slice_get}
use Rattle.lola_model.specs.Faults.{RunFault, fault_of_last}
use Rattle.lola_model.specs.Journal.{accepted}
use Rattle.lola_model.specs.Model.{last_row, made}
use Rattle.lola_model.specs.NextStep.{below_or, due, most_steps, next_settled, rows_taken, step_before}
use Rattle.lola_model.specs.Runs.{run_start, settled_fault, settled_lines, settled_model}
use Rattle.lola_model.specs.Steps.{start_of}
use Rattle.lola_model.specs.Table.{Step, TableRow}
use Rattle.lola_model.specs.Texts.{table_lines, text_of}
use Rattle.lola_model.specs.declared.journal.Entry.{Entry}
use Rattle.lola_model.specs.declared.journal.Row.{Row}
use Rattle.lola_model.specs.declared.journal.Show.{Show}
use Rattle.lola_model.specs.declared.plan.Plan.{Plan}
use Rattle.lola_model.proofs.Growing.{ended_by_fault, is_ended}
use Rattle.lola_model.proofs.Journals.{accepted-append, table_lines-append, text_of-append}
use Rattle.lola_model.proofs.RunFronts.{made_front}
use Rattle.lola_engine.specs.Engines.{accepted_entry}

-- no deadline is below 0
none_below : (o : Option ℕ) (s : Step) → below_or o 0 None ≡ Some s → ⊥
none_below None s e = absurd (cc)
none_below (Some t) s e = let q : below_or (Some t) 0 None ≡ None = rw (le-ltb t 0 (omega arith)) refl in let z = sym q ∙ e in absurd (cc)

-- what stands in the front stands there in the whole
at_front : (rows more : List Row) (k : ℕ) (r : Row) → slice_get rows k ≡ Some r → slice_get (rows ++ more) k ≡ Some r
at_front [] more k r e = absurd (cc)
at_front (q ∷ rows) more zero r e = e
at_front (q ∷ rows) more (suc k) r e = at_front rows more k r e

-- a settled step that comes by the front of the rows comes by all of them
same_step : (rows more : List Row) (k : ℕ) (o : Option ℕ) (s : Step) → step_before (slice_get rows k) 0 o ≡ Some s → step_before (slice_get (rows ++ more) k) 0 o ≡ Some s
same_step rows more k o s e = go (slice_get rows k) refl e
  where
    go : (r : Option Row) → slice_get rows k ≡ r → step_before r 0 o ≡ Some s → step_before (slice_get (rows ++ more) k) 0 o ≡ Some s
    go None at e = absurd (none_below o s e)
    go (Some r) at e = ap (λ q. step_before q 0 o) (at_front rows more k r at) ∙ e

more_steps : (from : ℕ) (rows more : List Row) → most_steps 0 from rows ≤ most_steps 0 from (rows ++ more)
more_steps from [] more = omega arith
more_steps from (r ∷ rows) more = let k = more_steps r.stamp rows more in omega arith

-- time counts from the first row or from what was told, whatever follows
same_start : (start : Option ℕ) (rows : List Row) (row : Row) (more : List Row) → start_of start (rows ++ row ∷ more) ≡ start_of start (rows ++ row ∷ [])
same_start (Some t) rows row more = refl
same_start None [] row more = refl
same_start None (r ∷ rows) row more = refl

module _ (plan : Plan) (start : Option ℕ) (front : List Entry) (row : Row) (rest : List Entry) where
  -- the journal up to this accepted entry
  abbrev begun : List Entry
  begun = front ++ accepted_entry row ∷ []

  -- and all of it
  abbrev whole : List Entry
  whole = front ++ accepted_entry row ∷ rest

  rows_begun : accepted begun ≡ accepted front ++ row ∷ []
  rows_begun = accepted-append front (accepted_entry row ∷ [])

  rows_whole : accepted whole ≡ accepted begun ++ accepted rest
  rows_whole = accepted-append front (accepted_entry row ∷ rest) ∙ sym (ap (λ rows. rows ++ accepted rest) rows_begun ∙ append_one (accepted front) row (accepted rest))
    where
      append_one : (xs : List Row) (x : Row) (ys : List Row) → (xs ++ x ∷ []) ++ ys ≡ xs ++ x ∷ ys
      append_one [] x ys = refl
      append_one (z ∷ xs) x ys = ap (λ zs. z ∷ zs) (append_one xs x ys)

  one_start : run_start plan start whole ≡ run_start plan start begun
  one_start =
      ap (start_of start) (accepted-append front (accepted_entry row ∷ rest))
      ∙ (same_start start (accepted front) row (accepted rest) ∙ sym (ap (start_of start) rows_begun))

  pub settled_front : (more : List TableRow) × (settled_model plan start whole ≡ settled_model plan start begun ++ more) × (is_ended (settled_model plan start begun) ≡ true → more ≡ [])
  unfolding settled_model
  settled_front =
      let from = run_start plan start begun in
      let rows = accepted begun in
      let later = accepted rest in
      let w = made_front plan from (next_settled plan from rows) (next_settled plan from (rows ++ later))
      (λ done s e. same_step rows later (rows_taken done) (due plan done from) s e)
      (most_steps 0 0 rows) (most_steps 0 0 (rows ++ later)) [] (more_steps 0 rows later) in (
        w.0,
        ap (λ z. made plan z (next_settled plan z (accepted whole)) (most_steps 0 0 (accepted whole)) []) one_start
            ∙ (ap (λ rs. made plan from (next_settled plan from rs) (most_steps 0 0 rs) []) rows_whole ∙ w.1),
        w.2,
      )

  -- the settled text of the front is a front of the whole
  pub text_front : (show : Show) → (more : List ℕ) × (text_of (settled_lines plan start whole show) ≡ text_of (settled_lines plan start begun show) ++ more)
  unfolding settled_lines
  text_front show =
      let streams = plan.spec.streams in
      let w = settled_front in (
        text_of (table_lines show streams w.0),
        ap text_of (ap (table_lines show streams) w.1 ∙ table_lines-append show streams (settled_model plan start begun) w.0)
            ∙ text_of-append (table_lines show streams (settled_model plan start begun)) (table_lines show streams w.0),
      )

  module _ (fault : RunFault) (at : settled_fault plan start begun ≡ Some fault) where
    ended : is_ended (settled_model plan start begun) ≡ true
    unfolding settled_fault
    ended = sym (ended_by_fault (settled_model plan start begun)) ∙ ap is_some at

    -- behind a fault no row comes
    all_settled : settled_model plan start whole ≡ settled_model plan start begun
    all_settled = let w = settled_front in w.1 ∙ (ap (λ rows. settled_model plan start begun ++ rows) (w.2 ended) ∙ append-nil (settled_model plan start begun))

    pub fault_stays : settled_fault plan start whole ≡ Some fault
    unfolding settled_fault
    fault_stays = ap (λ table. fault_of_last (last_row table)) all_settled ∙ at

    pub lines_stay : (show : Show) → settled_lines plan start whole show ≡ settled_lines plan start begun show
    unfolding settled_lines
    lines_stay show = ap (table_lines show plan.spec.streams) all_settled
