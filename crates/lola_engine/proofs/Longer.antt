-- The rule of a journal: its rows are taken one after the other, it goes on with one row more, and it ends with the last deadlines.
use Rattle.std.proofs.Common.{◌≡◌, refl, ap, sym, subst, ◌∙◌, ℕ, zero, suc, ◌+◌, ◌<◌, ◌≤◌, ◌⊎◌, inl, inr, List, [], ◌∷◌, ◌++◌, Option, Some, None, Bool, true, false, if◌then◌else◌, nat_lt, length, length-append, append-nil, arith}
use Rattle.std.proofs.lemmas.Bool.{le-ltb}
use Rattle.std.proofs.lemmas.Option.{slice_get_past}
use Rattle.std.specs.List.{slice_get}
use Rattle.lola_model.specs.Acceptance.{IsAccepted}
use Rattle.lola_model.specs.Faults.{fault_of_last}
use Rattle.lola_model.specs.Journal.{accepted}
use Rattle.lola_model.specs.Model.{GoesOn, IsModel, Next, answered, has_fault, last_row, made, model}
use Rattle.lola_model.specs.NextStep.{after_last, below_or, due, most_steps, next_settled, next_step, open_after, open_from, rows_taken, step_before, taken_by}
use Rattle.lola_model.specs.Runs.{IsSettledModel, run_start, settled_model, whole_model}
use Rattle.lola_model.specs.Steps.{deadline_step, row_step}
use Rattle.lola_model.specs.Table.{Step, TableRow}
use Rattle.lola_model.specs.declared.journal.Entry.{Entry}
use Rattle.lola_model.specs.declared.journal.Row.{Row}
use Rattle.lola_model.specs.declared.plan.Plan.{Plan}
use Rattle.lola_model.proofs.Ends.{Comes, AreDue, AreNot, due_not_before, open_from-append, rows_taken-append, what_comes}
use Rattle.lola_model.proofs.Growing.{is_ended, model_none}
use Rattle.lola_model.proofs.Growth.{last_row-append}
use Rattle.lola_model.proofs.Layers.{has_one_model}
use Rattle.lola_model.proofs.RunFronts.{made_front, settled_is_front}
use Rattle.lola_model.proofs.RunModels.{settled_solves, whole_solves}
use Rattle.lola_engine.specs.Rules.{Come, deadlines_below, opened_at}
use Rattle.lola_engine.proofs.Rows.{last_or}
use Rattle.lola_engine.proofs.Rules.{goes_behind, model_behind, none_or_one, one_row, reached, same_one, steps_of}
use Rattle.lola_engine.proofs.Tables.{answered_step, fine_goes_on, one_by_one, one_row_more}

-- no deadline is below 0
none_below : (o : Option ℕ) → below_or o 0 None ≡ None
none_below None = refl
none_below (Some t) = rw (le-ltb t 0 (omega arith)) refl

-- a row comes
comes_at : (r : Row) (o : Option ℕ) → below_or o r.stamp (Some (row_step r)) ≡ None → ⊥
comes_at r o e = go (what_comes o r.stamp (Some (row_step r)))
  where
    go : Comes o r.stamp (Some (row_step r)) (below_or o r.stamp (Some (row_step r))) → ⊥
    go (AreDue t d lt q) = none_or_one _ (deadline_step t) e q
    go (AreNot q not) = none_or_one _ (row_step r) e q

-- where a row is left, the step is its own or of deadlines
row_left : (rows : List Row) (k limit : ℕ) (o : Option ℕ) → step_before (slice_get rows k) limit o ≡ None → slice_get rows k ≡ None
row_left rows k limit o e = go (slice_get rows k) e
  where
    go : (r : Option Row) → step_before r limit o ≡ None → r ≡ None
    go None e = refl
    go (Some r) e = absurd (comes_at r o e)

-- at the limit 0 a step comes only where a row is left: it is the row's or of deadlines
pub record IsBefore (rows : List Row) (k : ℕ) (s : Step) : Type 0 where
  pub row : Row
  pub at : slice_get rows k ≡ Some row
  pub is : (s ≡ row_step row) ⊎ ((t : ℕ) × (s ≡ deadline_step t))

is_before : (rows : List Row) (k : ℕ) (o : Option ℕ) (s : Step) → step_before (slice_get rows k) 0 o ≡ Some s → IsBefore rows k s
is_before rows k o s e = go (slice_get rows k) refl e
  where
    which : (r : Row) → Comes o r.stamp (Some (row_step r)) (below_or o r.stamp (Some (row_step r))) → below_or o r.stamp (Some (row_step r)) ≡ Some s → (s ≡ row_step r) ⊎ ((t : ℕ) × (s ≡ deadline_step t))
    which r (AreDue t d lt q) e = inr (t, same_one _ s (deadline_step t) e q)
    which r (AreNot q not) e = inl (same_one _ s (row_step r) e q)

    go : (r : Option Row) → slice_get rows k ≡ r → step_before r 0 o ≡ Some s → IsBefore rows k s
    go None q e = absurd (none_or_one _ s (none_below o) e)
    go (Some r) q e = record { row = r; at = q; is = which r (what_comes o r.stamp (Some (row_step r))) e }

-- a row at a place stays there, the place behind all is free, and the last place has the last row

stays_at : (rows : List Row) (q : Row) (k : ℕ) (r : Row) → slice_get rows k ≡ Some r → slice_get (rows ++ q ∷ []) k ≡ Some r
stays_at [] q k r e = absurd (cc)
stays_at (p ∷ rows) q zero r e = e
stays_at (p ∷ rows) q (suc k) r e = stays_at rows q k r e

at_end : (rows : List Row) (q : Row) → slice_get (rows ++ q ∷ []) (length rows) ≡ Some q
at_end [] q = refl
at_end (p ∷ rows) q = at_end rows q

place_below : (rows : List Row) (k : ℕ) (r : Row) → slice_get rows k ≡ Some r → k < length rows
place_below [] k r e = absurd (cc)
place_below (p ∷ rows) zero r e = omega arith
place_below (p ∷ rows) (suc k) r e = let h = place_below rows k r e in omega arith

place_past : (rows : List Row) (k : ℕ) → slice_get rows k ≡ None → length rows ≤ k
place_past [] k e = omega arith
place_past (p ∷ rows) zero e = absurd (cc)
place_past (p ∷ rows) (suc k) e = let h = place_past rows k e in omega arith

last_at : (m : ℕ) (rows : List Row) (k : ℕ) (r : Row) → slice_get rows k ≡ Some r → length rows ≡ suc k → last_or m rows ≡ r.stamp
last_at m [] k r e h = absurd (cc)
last_at m (p ∷ []) zero r e h = let z : p ≡ r = cc in ap (λ (x : Row). x.stamp) z
last_at m (p ∷ []) (suc k) r e h = absurd (omega arith)
last_at m (p ∷ q ∷ rows) zero r e h = absurd (omega arith)
last_at m (p ∷ q ∷ rows) (suc k) r e h = last_at p.stamp (q ∷ rows) k r e (omega arith)

pub after_last_is : (m : ℕ) (rows : List Row) → (rows ≡ [] → ⊥) → after_last rows ≡ last_or m rows + 1
after_last_is m [] some = absurd (some refl)
after_last_is m (r ∷ []) some = refl
after_last_is m (r ∷ q ∷ rows) some = after_last_is r.stamp (q ∷ rows) (λ e. cc)

-- a table that has taken all rows: its last step is the last row's
pub record HasTakenAll (rows : List Row) (table : List TableRow) : Type 0 where
  pub taken : rows_taken table ≡ length rows
  pub opens : (m start : ℕ) → (rows ≡ [] → m ≡ start) → last_or m rows ≡ opened_at start (last_row table)

module _ (plan : Plan) (start : ℕ) (rows : List Row) where
  abbrev next : Next
  next = next_settled plan start rows

  last_is_row : (table before : List TableRow) (row : TableRow) → table ≡ before ++ row ∷ [] → next before ≡ Some row.step → next table ≡ None → HasTakenAll rows table
  last_is_row table before row e comes none =
      go (is_before rows (rows_taken before) (due plan before start) row.step comes)
    where
      free : length rows ≤ rows_taken table
      free = place_past rows (rows_taken table) (row_left rows (rows_taken table) 0 (due plan table start) none)

      more : rows_taken table ≡ rows_taken before + taken_by row.step
      more = ap rows_taken e ∙ rows_taken-append before row

      last : last_row table ≡ Some row
      last = ap last_row e ∙ last_row-append before row

      go : IsBefore rows (rows_taken before) row.step → HasTakenAll rows table
      go b = by_step b.is
        where
          below : rows_taken before < length rows
          below = place_below rows (rows_taken before) b.row b.at

          by_step : (row.step ≡ row_step b.row) ⊎ ((t : ℕ) × (row.step ≡ deadline_step t)) → HasTakenAll rows table
          by_step (inl s) =
              let one : taken_by row.step ≡ 1 = ap taken_by s in
              record {
                taken = omega (arith, free, more, below, one);
                opens = λ m start' first. last_at m rows (rows_taken before) b.row b.at (omega (arith, free, more, below, one))
                    ∙ sym (ap (opened_at start') last ∙ ap open_after s);
              }
          by_step (inr w) = let none' : taken_by row.step ≡ 0 = ap taken_by w.1 in absurd (omega (arith, free, more, below, none'))

  nothing_taken : next [] ≡ None → HasTakenAll rows []
  nothing_taken none =
      let free = place_past rows 0 (row_left rows 0 0 (due plan [] start) none) in
      record { taken = omega (arith, free); opens = λ m start' first. no_rows rows (omega (arith, free)) m start' first }
    where
      no_rows : (rs : List Row) → length rs ≤ 0 → (m start' : ℕ) → (rs ≡ [] → m ≡ start') → last_or m rs ≡ start'
      no_rows [] le m start' first = first refl
      no_rows (r ∷ rs) le m start' first = absurd (omega arith)

  -- a lawful table without a fault has
  pub all_taken : (table : List TableRow) → is_ended table ≡ false → IsModel plan start next table → HasTakenAll rows table
  all_taken table fine g = go (reached plan start next table [] fine (inl refl) g)
    where
      go : ((table ≡ []) ⊎ ((before : List TableRow) × (row : TableRow) × (table ≡ before ++ row ∷ []) × (next before ≡ Some row.step))) × (next table ≡ None) → HasTakenAll rows table
      go (inl e, none) = subst (HasTakenAll rows) (sym e) (nothing_taken (ap next (sym e) ∙ none))
      go (inr w, none) = last_is_row table w.0 w.1 w.2 w.3 none

more_steps : (from : ℕ) (rows : List Row) (q : Row) → most_steps 0 from rows ≤ most_steps 0 from (rows ++ q ∷ [])
more_steps from [] q = omega arith
more_steps from (r ∷ rows) q = let k = more_steps r.stamp rows q in omega arith

module _ (plan : Plan) (known : IsAccepted plan) (given_start : Option ℕ) (journal : List Entry) where
  -- the settled model of a journal is a front of that of the journal with one row more
  pub settled_front : (longer : List Entry) (row : Row) (start : ℕ) → accepted longer ≡ accepted journal ++ row ∷ [] → run_start plan given_start journal ≡ start → run_start plan given_start longer ≡ start
      → (more : List TableRow) × (settled_model plan given_start longer ≡ settled_model plan given_start journal ++ more)
  unfolding settled_model
  settled_front longer row start at here there =
      let rows = accepted journal in
      let w = made_front plan start (next_settled plan start rows) (next_settled plan start (rows ++ row ∷ []))
      (λ done s e. let b = is_before rows (rows_taken done) (due plan done start) s e in
      ap (λ o. step_before o 0 (due plan done start)) (stays_at rows row (rows_taken done) b.row b.at ∙ sym b.at) ∙ e)
      (most_steps 0 0 rows) (most_steps 0 0 (rows ++ row ∷ [])) [] (more_steps 0 rows row) in (
        w.0,
        ap (λ z. made plan z (next_settled plan z (accepted longer)) (most_steps 0 0 (accepted longer)) []) there
            ∙ (ap (λ rs. made plan start (next_settled plan start rs) (most_steps 0 0 rs) []) at
            ∙ (w.1 ∙ ap (λ z. made plan z (next_settled plan z rows) (most_steps 0 0 rows) [] ++ w.0) (sym here))),
      )

-- a table, and what comes lawfully behind it by the rule of the journal with one row more
pub record GoesLonger (plan : Plan) (given_start : Option ℕ) (longer : List Entry) (rows : List Row) (row : Row) (start : ℕ) (table : List TableRow) : Type 0 where
  pub rest : List TableRow
  pub split : settled_model plan given_start longer ≡ table ++ rest
  pub goes : GoesOn plan start (next_settled plan start (rows ++ row ∷ [])) table rest

module _ (plan : Plan) (known : IsAccepted plan) (given_start : Option ℕ) where
  pub goes_longer : (longer : List Entry) (rows : List Row) (row : Row) (start : ℕ) (table rest : List TableRow) → accepted longer ≡ rows ++ row ∷ [] → run_start plan given_start longer ≡ start
      → is_ended table ≡ false → settled_model plan given_start longer ≡ table ++ rest → GoesLonger plan given_start longer rows row start table
  goes_longer longer rows row start table rest at there fine split =
      let solves : IsSettledModel plan given_start longer (settled_model plan given_start longer) = settled_solves plan (has_one_model plan known.acyclic) known.rates given_start longer in
      let lawful : IsModel plan start (next_settled plan start (rows ++ row ∷ [])) (table ++ rest) =
      subst (λ t. IsModel plan start (next_settled plan start (rows ++ row ∷ [])) t) split
      (subst (λ rs. IsModel plan start (next_settled plan start rs) (settled_model plan given_start longer)) at
      (subst (λ z. IsModel plan z (next_settled plan z (accepted longer)) (settled_model plan given_start longer)) there solves)) in
      record { rest = rest; split = split; goes = goes_behind plan start (next_settled plan start (rows ++ row ∷ [])) table [] rest fine lawful }

  -- the settled model has taken all rows
  pub settled_taken : (journal : List Entry) → is_ended (settled_model plan given_start journal) ≡ false → HasTakenAll (accepted journal) (settled_model plan given_start journal)
  settled_taken journal fine =
      all_taken plan (run_start plan given_start journal) (accepted journal) (settled_model plan given_start journal) fine (settled_solves plan (has_one_model plan known.acyclic) known.rates given_start journal)

  -- and it is the model over its own steps
  pub own_steps : (journal : List Entry) → model plan (run_start plan given_start journal) (steps_of (settled_model plan given_start journal)) ≡ settled_model plan given_start journal
  own_steps journal =
      let start = run_start plan given_start journal in
      let table = settled_model plan given_start journal in
      let rule = next_settled plan start (accepted journal) in
      let none : model plan start [] ≡ [] = model_none plan start in
      model_behind plan start rule known.acyclic table [] (ap is_ended none)
      (subst (λ rs. GoesOn plan start rule rs table) (sym none) (settled_solves plan (has_one_model plan known.acyclic) known.rates given_start journal))
      ∙ ap (λ (rs : List TableRow). rs ++ table) none

-- deadlines below a row's stamp come by the rule of the journal with the row, and then the row, and then nothing
module _ (plan : Plan) (start : ℕ) (rows : List Row) (row : Row) where
  abbrev rule : Next
  rule = next_settled plan start (rows ++ row ∷ [])

  abbrev over : List Step → List TableRow
  over steps = model plan start steps

  below_other : (o : Option ℕ) (limit : ℕ) (other : Option Step) (x : Step) → below_or o limit None ≡ Some x → (below_or o limit other ≡ Some x) × (t : ℕ) × (x ≡ deadline_step t)
  below_other None limit other x e = absurd (cc)
  below_other (Some t) limit other x e = go (nat_lt t limit) e
    where
      go : (b : Bool) → (if b then Some (deadline_step t) else None) ≡ Some x → ((if b then Some (deadline_step t) else other) ≡ Some x) × (t : ℕ) × (x ≡ deadline_step t)
      go true e = (e, t, cc)
      go false e = absurd (cc)

  below_none : (o : Option ℕ) (limit : ℕ) (other : Option Step) → below_or o limit None ≡ None → below_or o limit other ≡ other
  below_none None limit other e = refl
  below_none (Some t) limit other e = go (nat_lt t limit) e
    where
      go : (b : Bool) → (if b then Some (deadline_step t) else None) ≡ None → (if b then Some (deadline_step t) else other) ≡ other
      go true e = absurd (cc)
      go false e = refl

  rule_is : (table : List TableRow) → rows_taken table ≡ length rows → rule table ≡ below_or (due plan table start) row.stamp (Some (row_step row))
  rule_is table taken = ap (λ o. step_before o 0 (due plan table start)) (ap (slice_get (rows ++ row ∷ [])) taken ∙ at_end rows row)

  taken_behind : (steps : List Step) (x : Step) (t : ℕ) → fault_of_last (last_row (over steps)) ≡ None → x ≡ deadline_step t → rows_taken (over steps) ≡ length rows → rows_taken (over (steps ++ x ∷ [])) ≡ length rows
  taken_behind steps x t fine at taken =
      let one = one_row_more plan start steps x (fine_goes_on (over steps) fine) in
      let a = rows_taken-append (over steps) (answered plan start (over steps) x) in
      let b : taken_by (answered plan start (over steps) x).step ≡ 0 = ap taken_by (answered_step plan start (over steps) x ∙ at) in
      let c = ap rows_taken one in
      omega (arith, a, b, c, taken)

  -- the deadlines
  pub due_come : (more steps : List Step) → rows_taken (over steps) ≡ length rows → Come plan start (deadlines_below plan start row.stamp) steps more
      → Come plan start rule steps more × (rows_taken (over (steps ++ more)) ≡ length rows)
  due_come [] steps taken come = (tt, ap (λ ss. rows_taken (over ss)) (append-nil steps) ∙ taken)
  due_come (x ∷ more) steps taken come =
      let w = below_other (due plan (over steps) start) row.stamp (Some (row_step row)) x come.1 in
      let later = due_come more (steps ++ x ∷ []) (taken_behind steps x w.1 come.0 w.2 taken) come.2 in
      ((come.0, rule_is (over steps) taken ∙ w.0, later.0), ap (λ ss. rows_taken (over ss)) (one_by_one steps x more) ∙ later.1)

  -- the row
  pub row_comes : (table : List TableRow) → rows_taken table ≡ length rows → deadlines_below plan start row.stamp table ≡ None → rule table ≡ Some (row_step row)
  row_comes table taken none = rule_is table taken ∙ below_none (due plan table start) row.stamp (Some (row_step row)) none

  -- nothing
  pub none_behind : (steps : List Step) → fault_of_last (last_row (over steps)) ≡ None → rows_taken (over steps) ≡ length rows → rule (over (steps ++ row_step row ∷ [])) ≡ None
  none_behind steps fine taken =
      let table = over (steps ++ row_step row ∷ []) in
      let one = one_row_more plan start steps (row_step row) (fine_goes_on (over steps) fine) in
      let a = rows_taken-append (over steps) (answered plan start (over steps) (row_step row)) in
      let b : taken_by (answered plan start (over steps) (row_step row)).step ≡ 1 = ap taken_by (answered_step plan start (over steps) (row_step row)) in
      let c = ap rows_taken one in
      ap (λ o. step_before o 0 (due plan table start)) (slice_get_past (rows ++ row ∷ []) (rows_taken table) (omega (arith, a, b, c, taken, length-append rows (row ∷ []))))
      ∙ none_below (due plan table start)

-- the end of a run

module _ (plan : Plan) (known : IsAccepted plan) (given_start : Option ℕ) (journal : List Entry) (fine : is_ended (settled_model plan given_start journal) ≡ false) where
  abbrev begin : ℕ
  begin = run_start plan given_start journal

  abbrev settled : List TableRow
  settled = settled_model plan given_start journal

  abbrev last_rule : Next
  last_rule = next_step plan begin (accepted journal)

  -- the whole model is the settled one and what comes behind it
  behind_settled : (rest : List TableRow) × (whole_model plan given_start journal ≡ settled ++ rest) × GoesOn plan begin last_rule settled rest
  behind_settled =
      let w = settled_is_front plan given_start journal in
      let lawful : IsModel plan begin last_rule (settled ++ w.0) = subst (λ t. IsModel plan begin last_rule t) w.1 (whole_solves plan (has_one_model plan known.acyclic) known.rates given_start journal) in
      (w.0, w.1, goes_behind plan begin last_rule settled [] w.0 fine lawful)

  last_rule_is : (table : List TableRow) → length (accepted journal) ≤ rows_taken table → last_rule table ≡ deadlines_below plan begin (after_last (accepted journal)) table
  last_rule_is table taken = ap (λ o. step_before o (after_last (accepted journal)) (due plan table begin)) (slice_get_past (accepted journal) (rows_taken table) taken)

  settled_rule : last_rule settled ≡ deadlines_below plan begin (after_last (accepted journal)) settled
  settled_rule = let t = settled_taken plan known given_start journal fine in last_rule_is settled (omega (arith, t.taken))

  -- no deadline is left
  pub whole_is_settled : deadlines_below plan begin (after_last (accepted journal)) settled ≡ None → whole_model plan given_start journal ≡ settled
  whole_is_settled none = let w = behind_settled in go w.0 w.1 w.2
    where
      go : (rest : List TableRow) → whole_model plan given_start journal ≡ settled ++ rest → GoesOn plan begin last_rule settled rest → whole_model plan given_start journal ≡ settled
      go [] e g = e ∙ append-nil settled
      go (row ∷ rest) e g = absurd (none_or_one (last_rule settled) row.step (settled_rule ∙ none) g.0)

  -- behind the deadlines at the last stamp none is
  none_later : (x : Step) (row : TableRow) → (t : ℕ) → x ≡ deadline_step t → row.step ≡ x → after_last (accepted journal) ≤ t + 1 → last_rule (settled ++ row ∷ []) ≡ None
  none_later x row t at is low =
      let table = settled ++ row ∷ [] in
      let all = settled_taken plan known given_start journal fine in
      let a = rows_taken-append settled row in
      let open_at : open_from (last_row table) ≡ t + 1 = open_from-append settled row ∙ ap open_after (is ∙ at) in
      last_rule_is table (omega (arith, all.taken, a))
      ∙ go (what_comes (due plan table begin) (after_last (accepted journal)) None) open_at
    where
      go : Comes (due plan (settled ++ row ∷ []) begin) (after_last (accepted journal)) None (deadlines_below plan begin (after_last (accepted journal)) (settled ++ row ∷ []))
          → open_from (last_row (settled ++ row ∷ [])) ≡ t + 1 → deadlines_below plan begin (after_last (accepted journal)) (settled ++ row ∷ []) ≡ None
      go (AreDue u d lt q) e = let k : open_from (last_row (settled ++ row ∷ [])) ≤ u = due_not_before plan (settled ++ row ∷ []) known.rates begin u d in absurd (omega arith)
      go (AreNot q not) e = q

  -- the deadlines at the last stamp are left
  pub whole_has_one : (t : ℕ) → deadlines_below plan begin (after_last (accepted journal)) settled ≡ Some (deadline_step t) → after_last (accepted journal) ≤ t + 1
      → whole_model plan given_start journal ≡ settled ++ answered plan begin settled (deadline_step t) ∷ []
  whole_has_one t one low = let w = behind_settled in go w.0 w.1 w.2
    where
      go : (rest : List TableRow) → whole_model plan given_start journal ≡ settled ++ rest → GoesOn plan begin last_rule settled rest → whole_model plan given_start journal ≡ settled ++ answered plan begin settled (deadline_step t) ∷ []
      go [] e g = absurd (none_or_one (last_rule settled) (deadline_step t) g (settled_rule ∙ one))
      go (row ∷ rest) e g =
          e
          ∙ (ap (λ (ts : List TableRow). settled ++ row ∷ ts) (by_fault (has_fault row) g.2)
          ∙ ap (λ (r : TableRow). settled ++ r ∷ []) ((one_row plan begin known.acyclic).only settled row.step row g.1 ∙ ap (answered plan begin settled) is))
        where
          is : row.step ≡ deadline_step t
          is = same_one (last_rule settled) row.step (deadline_step t) g.0 (settled_rule ∙ one)

          empty : (ts : List TableRow) → GoesOn plan begin last_rule (settled ++ row ∷ []) ts → ts ≡ []
          empty [] g = refl
          empty (r ∷ ts) g = absurd (none_or_one (last_rule (settled ++ row ∷ [])) r.step (none_later (deadline_step t) row t refl is low) g.0)

          by_fault : (b : Bool) → elim b as (λ _. Type 0) [ true ↦ rest ≡ [] | false ↦ GoesOn plan begin last_rule (settled ++ row ∷ []) rest ] → rest ≡ []
          by_fault true g = g
          by_fault false g = empty rest g
