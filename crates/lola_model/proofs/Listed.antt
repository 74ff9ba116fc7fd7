-- Where no clause is local, the steps that come one by one are those of the list of all rows and deadlines.
use Rattle.std.proofs.Common.{◌≡◌, refl, ap, ◌∙◌, sym, subst, ℕ, zero, suc, ◌+◌, ◌-◌, ◌<◌, ◌≤◌, List, [], ◌∷◌, ◌++◌, Option, Some, None, Bool, true, false, ◌||◌, arith, length, length-append, nat_lt, drop, append_assoc, append-nil, map}
use Rattle.std.proofs.lemmas.Bool.{ltb-true, ltb-false, lt-ltb, le-ltb}
use Rattle.std.proofs.lemmas.Option.{slice_get_past}
use Rattle.std.specs.List.{slice_get}
use Rattle.std.specs.Option.{option_map}
use Rattle.lola_value.specs.Ratio.{Ratio}
use Rattle.lola_model.specs.Table.{Step, Instance, TableRow}
use Rattle.lola_model.specs.Steps.{deadline_step, row_step, rates_of, first_after, deadlines_up_to, deadline_steps, steps_from, last_deadline}
use Rattle.lola_model.specs.StepOrder.{AreRates}
use Rattle.lola_model.specs.Model.{survivors, last_row, Next, in_order, GoesOn, has_fault}
use Rattle.lola_model.specs.NextStep.{local_rate_of, local_rates, earlier, first_due, open_after, open_from, due_of_instances, due_of_streams, due, taken_by, rows_taken, below_or, step_before, after_last, next_below, is_local, has_local}
use Rattle.lola_model.specs.declared.journal.Row.{Row}
use Rattle.lola_model.specs.declared.pacing.Pacing.{Pacing}
use Rattle.lola_model.specs.declared.pacing.Pacing.TheVariants.{Event, Periodic, Local}
use Rattle.lola_model.specs.declared.pacing.ClausePacings.{ClausePacings}
use Rattle.lola_model.specs.declared.plan.Plan.{Plan}
use Rattle.lola_model.specs.declared.spec.Stream.{Stream}
use Rattle.lola_model.proofs.Deadlines.{first_after_above, passed_after}
use Rattle.lola_model.proofs.Ends.{first_of, open_from-append, rows_taken-append}
use Rattle.lola_model.proofs.Growing.{is_ended, later_fine}

-- where no clause is local, nothing counts from a birth

or_left : (a b : Bool) → (a || b) ≡ false → a ≡ false
or_left true b e = e
or_left false b e = refl

or_right : (a b : Bool) → (a || b) ≡ false → b ≡ false
or_right true b e = absurd (cc)
or_right false b e = e

no_rate : (p : Option Pacing) → is_local p ≡ false → local_rate_of p ≡ []
no_rate None e = refl
no_rate (Some (Event sets)) e = refl
no_rate (Some (Periodic r)) e = refl
no_rate (Some (Local r)) e = absurd (cc)

pub no_local_rates : (ps : List ClausePacings) (n : ℕ) → has_local ps ≡ false → local_rates (slice_get ps n) ≡ []
no_local_rates [] n e = refl
no_local_rates (c ∷ ps) zero e =
    let inner = or_right (is_local c.spawn) _ e in
    let rest = or_right (is_local c.eval) _ inner in
    ap (λ rs. rs ++ local_rate_of c.close) (no_rate c.eval (or_left (is_local c.eval) _ inner)) ∙ no_rate c.close (or_left (is_local c.close) _ rest)
no_local_rates (c ∷ ps) (suc n) e =
    no_local_rates ps n (or_right (is_local c.close) _ (or_right (is_local c.eval) _ (or_right (is_local c.spawn) _ e)))

earlier_none : (o : Option ℕ) → earlier o None ≡ o
earlier_none None = refl
earlier_none (Some t) = refl

module _ (plan : Plan) (table : List TableRow) (none : has_local plan.pacings ≡ false) where
  no_instance_due : (is : List Instance) → due_of_instances plan table [] is ≡ None
  no_instance_due [] = refl
  no_instance_due (i ∷ is) = no_instance_due is

  no_stream_due : (n : ℕ) (ss : List Stream) → due_of_streams plan table n ss ≡ None
  no_stream_due n [] = refl
  no_stream_due n (s ∷ ss) =
      ap (λ rs. earlier (due_of_instances plan table rs (survivors n s (last_row table))) (due_of_streams plan table (n + 1) ss)) (no_local_rates plan.pacings n none)
      ∙ (ap (λ o. earlier o (due_of_streams plan table (n + 1) ss)) (no_instance_due (survivors n s (last_row table))) ∙ no_stream_due (n + 1) ss)

  pub due_from_start : (start : ℕ) → due plan table start ≡ first_due start (rates_of plan.pacings) (open_from (last_row table))
  due_from_start start =
      ap (earlier (first_due start (rates_of plan.pacings) (open_from (last_row table)))) (no_stream_due 0 plan.spec.streams)
      ∙ earlier_none (first_due start (rates_of plan.pacings) (open_from (last_row table)))

-- of a moment and a limit

not_below : (t limit : ℕ) (other : Option Step) → limit ≤ t → below_or (Some t) limit other ≡ other
not_below t limit other h = rw (le-ltb t limit h) refl

is_below : (t limit : ℕ) (other : Option Step) → t < limit → below_or (Some t) limit other ≡ Some (deadline_step t)
is_below t limit other h = rw (lt-ltb t limit h) refl

module _ (rates : List Ratio) (start limit : ℕ) where
  -- these steps come one by one, each where the ones before it are done and these rows are left, and then none comes
  abbrev pub Walks : ℕ → List Row → List Step → Type 0
  Walks from left [] = step_before (first_of left) limit (first_due start rates from) ≡ None
  Walks from left (s ∷ ss) = (step_before (first_of left) limit (first_due start rates from) ≡ Some s) × Walks (open_after s) (drop (taken_by s) left) ss

  abbrev passed_at : ℕ → ℕ
  passed_at from = from - start - 1

  abbrev as_steps : List ℕ → List Step
  as_steps ts = map (λ t. deadline_step (start + t)) ts

  -- first the deadlines below the next row's stamp, or below the limit, and then what follows them
  module _ (positive : AreRates rates) (left : List Row) (top : ℕ) (other : Option Step) (is : (d : Option ℕ) → step_before (first_of left) limit d ≡ below_or d top other)
      (then : List Step) (goes_on : (from : ℕ) → below_or (first_due start rates from) top other ≡ other → Walks from left then) where
    -- no deadline is left
    quiet : (from : ℕ) (o : Option ℕ) → first_after rates (passed_at from) ≡ o → ((t : ℕ) → o ≡ Some t → top ≤ start + t) → Walks from left then
    quiet from None e h = goes_on from (ap (λ z. below_or (option_map (λ t. start + t) z) top other) e)
    quiet from (Some t) e h = goes_on from (ap (λ z. below_or (option_map (λ u. start + u) z) top other) e ∙ not_below (start + t) top other (h t refl))

    abbrev Over : ℕ → Type 0
    Over most = (from : ℕ) → top - start - passed_at from ≤ most → Walks from left (as_steps (deadlines_up_to most rates (passed_at from) (top - start)) ++ then)

    by_limit : (most from t : ℕ) (b : Bool) → Over most → first_after rates (passed_at from) ≡ Some t → nat_lt t (top - start) ≡ b → top - start - passed_at from ≤ suc most
        → Walks from left (as_steps (elim b [ true ↦ t ∷ deadlines_up_to most rates t (top - start) | false ↦ [] ]) ++ then)
    by_limit most from t false over e q h =
        let k : top - start ≤ t = ltb-false t (top - start) q in
        quiet from (Some t) e (λ u z. let y : t ≡ u = cc in omega arith)
    by_limit most from t true over e q h =
        let k : t < top - start = ltb-true t (top - start) q in
        let above : passed_at from < t = first_after_above rates (passed_at from) t positive e in
        let later : start + t + 1 - start - 1 ≡ t = omega arith in (
          is (first_due start rates from) ∙ (ap (λ z. below_or (option_map (λ u. start + u) z) top other) e ∙ is_below (start + t) top other (omega arith)),
          subst (λ p. Walks (start + t + 1) left (as_steps (deadlines_up_to most rates p (top - start)) ++ then)) later (over (start + t + 1) (omega arith)),
        )

    by_first : (most from : ℕ) (o : Option ℕ) → Over most → first_after rates (passed_at from) ≡ o → top - start - passed_at from ≤ suc most
        → Walks from left (as_steps (elim o [ None ↦ [] | Some t ↦ elim (nat_lt t (top - start)) [ true ↦ t ∷ deadlines_up_to most rates t (top - start) | false ↦ [] ] ]) ++ then)
    by_first most from None over e h = quiet from None e (λ t z. absurd (cc))
    by_first most from (Some t) over e h = by_limit most from t (nat_lt t (top - start)) over e refl h

    over : (most : ℕ) → Over most
    over zero from h =
        quiet from (first_after rates (passed_at from)) refl (λ t e. let k : passed_at from < t = first_after_above rates (passed_at from) t positive e in omega arith)
    over (suc most) from h = by_first most from (first_after rates (passed_at from)) (over most) refl h

    pub deadlines_walk : (from : ℕ) → Walks from left (deadline_steps rates start (passed_at from) (top - start) ++ then)
    deadlines_walk from = over (top - start - passed_at from) from (omega arith)

  -- all rows, with the deadlines before them, and then the deadlines below the limit
  pub rows_walk : AreRates rates → (left : List Row) (from : ℕ)
      → Walks from left (steps_from rates start (passed_at from) left ++ deadline_steps rates start (passed_after start (passed_at from) left) (limit - start))
  rows_walk positive [] from =
      subst (λ ss. Walks from [] ss) (append-nil (deadline_steps rates start (passed_at from) (limit - start)))
      (deadlines_walk positive [] limit None (λ d. refl) [] (λ t q. q) from)
  rows_walk positive (r ∷ left) from =
      let rest = steps_from rates start (r.stamp - start - 1) left in
      let tail = deadline_steps rates start (passed_after start (r.stamp - start - 1) left) (limit - start) in
      subst (λ ss. Walks from (r ∷ left) ss) (sym (append_assoc (deadline_steps rates start (passed_at from) (r.stamp - start)) (row_step r ∷ rest) tail))
      (deadlines_walk positive (r ∷ left) r.stamp (Some (row_step r)) (λ d. refl) (row_step r ∷ (rest ++ tail)) (λ t q. (q, rows_walk positive left r.stamp)) from)

-- no deadline lies between two offsets that are not apart
pub none_between : (rates : List Ratio) (start p l : ℕ) → l - p ≡ 0 → deadline_steps rates start p l ≡ []
none_between rates start p l h = ap (λ n. map (λ t. deadline_step (start + t)) (deadlines_up_to n rates p l)) h

-- nor just above one
none_above : (rates : List Ratio) (start p l : ℕ) → AreRates rates → l ≤ p + 1 → deadline_steps rates start p l ≡ []
none_above rates start p l positive h = ap (map (λ t. deadline_step (start + t))) (by_count (l - p) (omega arith))
  where
    by_first : (o : Option ℕ) → first_after rates p ≡ o → (elim o [ None ↦ [] | Some t ↦ elim (nat_lt t l) [ true ↦ t ∷ deadlines_up_to 0 rates t l | false ↦ [] ] ]) ≡ (let xs : List ℕ = [] in xs)
    by_first None e = refl
    by_first (Some t) e =
        let above : p < t = first_after_above rates p t positive e in
        ap (λ b. elim b as (λ _. List ℕ) [ true ↦ t ∷ deadlines_up_to 0 rates t l | false ↦ [] ]) (le-ltb t l (omega arith))

    by_count : (n : ℕ) → n ≤ 1 → deadlines_up_to n rates p l ≡ []
    by_count zero h = refl
    by_count (suc zero) h = by_first (first_after rates p) refl
    by_count (suc (suc n)) h = absurd (omega arith)

-- the deadlines below the moment after the last stamp are those of the last stamp
pub last_walk : (rates : List Ratio) (start p : ℕ) (rows : List Row) → AreRates rates
    → deadline_steps rates start (passed_after start p rows) (after_last rows - start) ≡ last_deadline rates start rows
last_walk rates start p [] positive = none_between rates start p (0 - start) (omega arith)
last_walk rates start p (r ∷ []) positive = elim (nat_lt r.stamp start) as (λ b. nat_lt r.stamp start ≡ b → deadline_steps rates start (r.stamp - start - 1) (r.stamp + 1 - start) ≡ deadline_steps rates start (r.stamp - start - 1) (r.stamp - start + 1)) [
  | true ↦ λ q.
      let before : r.stamp < start = ltb-true r.stamp start q in
      none_above rates start (r.stamp - start - 1) (r.stamp + 1 - start) positive (omega arith)
      ∙ sym (none_above rates start (r.stamp - start - 1) (r.stamp - start + 1) positive (omega arith))
  | false ↦ λ q.
      let low : start ≤ r.stamp = ltb-false r.stamp start q in
      let e : r.stamp + 1 - start ≡ r.stamp - start + 1 = omega arith in
      ap (deadline_steps rates start (r.stamp - start - 1)) e
] refl
last_walk rates start p (r ∷ q ∷ rows) positive = last_walk rates start (r.stamp - start - 1) (q ∷ rows) positive

-- rows that are dropped one after the other

drop_drop : (j k : ℕ) (rows : List Row) → drop j (drop k rows) ≡ drop (k + j) rows
drop_drop j zero rows = let e : 0 + j ≡ j = omega arith in ap (λ n. drop n rows) (sym e)
drop_drop j (suc k) [] = go j ∙ sym (go (suc k + j))
  where
    go : (n : ℕ) → drop n (let xs : List Row = [] in xs) ≡ []
    go zero = refl
    go (suc n) = refl
drop_drop j (suc k) (r ∷ rows) = drop_drop j k rows ∙ (let e : suc (k + j) ≡ suc k + j = omega arith in ap (λ n. drop n (r ∷ rows)) e)

first_left : (k : ℕ) (rows : List Row) → slice_get rows k ≡ first_of (drop k rows)
first_left zero [] = refl
first_left zero (r ∷ rows) = refl
first_left (suc k) [] = refl
first_left (suc k) (r ∷ rows) = first_left k rows

-- a list at the place behind its front
at_seam : (past : List Step) (s : Step) (rest : List Step) (n : ℕ) → length past ≡ n → slice_get (past ++ s ∷ rest) n ≡ Some s
at_seam [] s rest zero e = refl
at_seam [] s rest (suc n) e = absurd (omega arith)
at_seam (p ∷ past) s rest zero e = absurd (omega arith)
at_seam (p ∷ past) s rest (suc n) e = at_seam past s rest n (omega arith)

module _ (plan : Plan) (start : ℕ) (rows : List Row) (limit : ℕ) (none : has_local plan.pacings ≡ false) where
  abbrev next : Next
  next = next_below plan start rows limit

  abbrev Goes : List Step → List TableRow → List TableRow → Type 0
  Goes steps done table = GoesOn plan start (in_order steps) done table

  abbrev WalksOn : List TableRow → List Step → Type 0
  WalksOn done rest = Walks (rates_of plan.pacings) start limit (open_from (last_row done)) (drop (rows_taken done) rows) rest

  comes_by : (done : List TableRow) → next done ≡ step_before (first_of (drop (rows_taken done) rows)) limit (first_due start (rates_of plan.pacings) (open_from (last_row done)))
  comes_by done =
      ap (λ o. step_before o limit (due plan done start)) (first_left (rows_taken done) rows)
      ∙ ap (step_before (first_of (drop (rows_taken done) rows)) limit) (due_from_start plan done none start)

  same_step : (o : Option Step) (s t : Step) → o ≡ Some s → o ≡ Some t → s ≡ t
  same_step None s t e g = absurd (cc)
  same_step (Some r) s t e g = let a : r ≡ s = cc in let b : r ≡ t = cc in sym a ∙ b

  -- behind one more row
  walks_later : (done : List TableRow) (row : TableRow) (s : Step) (rest : List Step) → s ≡ row.step
      → Walks (rates_of plan.pacings) start limit (open_after s) (drop (taken_by s) (drop (rows_taken done) rows)) rest → WalksOn (done ++ row ∷ []) rest
  walks_later done row s rest e w =
      let a : open_after s ≡ open_from (last_row (done ++ row ∷ [])) = ap open_after e ∙ sym (open_from-append done row) in
      let b : drop (taken_by s) (drop (rows_taken done) rows) ≡ drop (rows_taken (done ++ row ∷ [])) rows =
      drop_drop (taken_by s) (rows_taken done) rows
      ∙ ap (λ n. drop n rows) (ap (λ z. rows_taken done + taken_by z) e ∙ sym (rows_taken-append done row)) in
      subst (λ left. Walks (rates_of plan.pacings) start limit (open_from (last_row (done ++ row ∷ []))) left rest) b
      (subst (λ from. Walks (rates_of plan.pacings) start limit from (drop (taken_by s) (drop (rows_taken done) rows)) rest) a w)

  -- a table that is lawful by the steps that come one by one is so by their list
  pub goes_in_order : (table done : List TableRow) (past rest : List Step) → length past ≡ length done → WalksOn done rest → GoesOn plan start next done table → Goes (past ++ rest) done table
  goes_in_order [] done past [] e w g = slice_get_past (past ++ []) (length done) (omega (arith, length-append past (let xs : List Step = [] in xs)))
  goes_in_order [] done past (s ∷ rest) e w g = let q = sym (comes_by done) ∙ g in let z = w.0 in absurd (cc)
  goes_in_order (row ∷ more) done past [] e w g = let q = sym (comes_by done) ∙ g.0 in absurd (cc)
  goes_in_order (row ∷ more) done past (s ∷ rest) e w g =
      let is : s ≡ row.step = same_step (next done) s row.step (comes_by done ∙ w.0) g.0 in (
        at_seam past s rest (length done) e ∙ ap Some is,
        g.1,
        go (has_fault row) g.2 (λ h. goes_in_order more (done ++ row ∷ []) (past ++ s ∷ []) rest (omega (arith, length-append past (s ∷ []), length-append done (row ∷ []))) (walks_later done row s rest is w.1) h),
      )
    where
      go : (b : Bool) → elim b as (λ _. Type 0) [ true ↦ more ≡ [] | false ↦ GoesOn plan start next (done ++ row ∷ []) more ]
          → (GoesOn plan start next (done ++ row ∷ []) more → Goes ((past ++ s ∷ []) ++ rest) (done ++ row ∷ []) more)
          → elim b as (λ _. Type 0) [ true ↦ more ≡ [] | false ↦ Goes (past ++ s ∷ rest) (done ++ row ∷ []) more ]
      go true h later = h
      go false h later = subst (λ ss. Goes ss (done ++ row ∷ []) more) (append_assoc past (s ∷ []) rest) (later h)

-- the steps of a lawful table are the first of the list, up to and with that of the first row with a fault, or else all
abbrev pub steps_of_rows : List TableRow → List Step
steps_of_rows table = map (λ (row : TableRow). row.step) table

module _ (plan : Plan) (start : ℕ) where
  pub up_to_fault : (table done : List TableRow) (past rest : List Step) → length past ≡ length done → GoesOn plan start (in_order (past ++ rest)) done table
      → (later : List Step) × (rest ≡ map (λ (row : TableRow). row.step) table ++ later) × (is_ended table ≡ false → later ≡ [])
  up_to_fault [] done past [] e g = ([], refl, λ h. refl)
  up_to_fault [] done past (s ∷ rest) e g = let q = at_seam past s rest (length done) e in absurd (cc)
  up_to_fault (row ∷ more) done past [] e g =
      let q : slice_get (past ++ []) (length done) ≡ None = slice_get_past (past ++ []) (length done) (omega (arith, length-append past (let xs : List Step = [] in xs))) in
      let z = g.0 in absurd (cc)
  up_to_fault (row ∷ more) done past (s ∷ rest) e g =
      go (has_fault row) refl g.2 (λ h. up_to_fault more (done ++ row ∷ []) (past ++ s ∷ []) rest (omega (arith, length-append past (s ∷ []), length-append done (row ∷ [])))
      (subst (λ ss. GoesOn plan start (in_order ss) (done ++ row ∷ []) more) (sym (append_assoc past (s ∷ []) rest)) h))
    where
      is : s ≡ row.step
      is = let q = at_seam past s rest (length done) e in let z = g.0 in (let y : Some s ≡ Some row.step = sym q ∙ z in cc)

      go : (b : Bool) → has_fault row ≡ b → elim b as (λ _. Type 0) [ true ↦ more ≡ [] | false ↦ GoesOn plan start (in_order (past ++ s ∷ rest)) (done ++ row ∷ []) more ]
          → (GoesOn plan start (in_order (past ++ s ∷ rest)) (done ++ row ∷ []) more → (later : List Step) × (rest ≡ steps_of_rows more ++ later) × (is_ended more ≡ false → later ≡ []))
          → (later : List Step) × (s ∷ rest ≡ steps_of_rows (row ∷ more) ++ later) × (is_ended (row ∷ more) ≡ false → later ≡ [])
      go true f h later =
          let one : is_ended (row ∷ more) ≡ true = ap (λ rs. is_ended (row ∷ rs)) h ∙ f in
          (rest, ap (λ z. z ∷ rest) is ∙ ap (λ rs. row.step ∷ (steps_of_rows rs ++ rest)) (sym h), λ z. absurd (cc))
      go false f h later = let w = later h in (w.0, ap (λ z. z ∷ rest) is ∙ ap (λ rs. row.step ∷ rs) w.1, λ z. w.2 (later_fine row more z))
