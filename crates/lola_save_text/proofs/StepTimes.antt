-- The steps of a run lie from its start to its last accepted row, and their times do not fall.
use Rattle.std.proofs.Common.{◌≡◌, ℕ, zero, suc, ◌+◌, ◌-◌, ◌<◌, ◌≤◌, List, [], ◌∷◌, ◌++◌, length, refl, sym, subst, ap, ◌∙◌, arith, Bool, true, false, Option, Some, None, if◌then◌else◌, slice_get}
use Rattle.std.specs.List.{AllZip}
use Rattle.std.specs.Option.{option_map}
use Rattle.lola_value.specs.Ratio.{Ratio}
use Rattle.lola_value.specs.declared.text.Field.{Field}
use Rattle.lola_value.specs.declared.value.Kind.{Kind}
use Rattle.lola_model.specs.Acceptance.{IsAccepted}
use Rattle.lola_model.specs.Content.{time_of}
use Rattle.lola_model.specs.Graph.{nodes_of}
use Rattle.lola_model.specs.Model.{survivors, last_row, asked, closing, has_evaluation_fault, closes_from, answered, the_instance}
use Rattle.lola_model.specs.NextStep.{local_rates, earlier, first_due, open_after, open_from, due_of_instances, due_of_streams, due, below_or, step_before, next_settled}
use Rattle.lola_model.specs.Runs.{time_of_last}
use Rattle.lola_model.specs.StepOrder.{DoNotFall}
use Rattle.lola_model.specs.Steps.{deadline_step, row_step, rates_of, first_after}
use Rattle.lola_model.specs.Table.{Step, Instance, TableRow}
use Rattle.lola_model.specs.Trace.{IsFieldOf, input_kinds}
use Rattle.lola_model.specs.declared.journal.Row.{Row}
use Rattle.lola_model.specs.declared.plan.Plan.{Plan}
use Rattle.lola_model.specs.declared.spec.Clause.{Clause}
use Rattle.lola_model.specs.declared.spec.Stream.{Stream}
use Rattle.lola_model.proofs.Ends.{IsAt, at_first, at_row, at_deadlines, next_row, first_of, Comes, AreDue, AreNot, what_comes, due_not_before}
use Rattle.lola_model.proofs.Growth.{last_row-append}
use Rattle.lola_model.proofs.LocalsSpawn.{no_local_rates}
use Rattle.lola_save_text.proofs.AnsweredKinds.{AreFieldsOf}

-- times of rows that do not fall, from a time on
abbrev pub AreTimed : ℕ → List TableRow → Type 0
AreTimed low [] = Unit {0}
AreTimed low (r ∷ rs) = (low ≤ r.step.time) × AreTimed r.step.time rs

-- and are no greater than one
abbrev pub AreUpTo : ℕ → List TableRow → Type 0
AreUpTo high [] = Unit {0}
AreUpTo high (r ∷ rs) = (r.step.time ≤ high) × AreUpTo high rs

-- stamps are no greater than a time
abbrev pub StampsUpTo : ℕ → List Row → Type 0
StampsUpTo high [] = Unit {0}
StampsUpTo high (r ∷ rs) = (r.stamp ≤ high) × StampsUpTo high rs

-- one more row

last-same : (a b : ℕ) (q : TableRow) (rows : List TableRow) → time_of_last a (last_row (q ∷ rows)) ≡ time_of_last b (last_row (q ∷ rows))
last-same a b q [] = refl
last-same a b q (p ∷ rows) = last-same a b p rows

timed-more : (low : ℕ) (rows : List TableRow) (row : TableRow) → AreTimed low rows → time_of_last low (last_row rows) ≤ row.step.time → AreTimed low (rows ++ row ∷ [])
timed-more low [] row h le = (le, tt)
timed-more low (r ∷ []) row h le = (h.0, (le, tt))
timed-more low (r ∷ q ∷ rows) row h le =
    (h.0, timed-more r.step.time (q ∷ rows) row h.1 (subst (λ (t : ℕ). t ≤ row.step.time) (last-same low r.step.time q rows) le))

up-more : (high : ℕ) (rows : List TableRow) (row : TableRow) → AreUpTo high rows → row.step.time ≤ high → AreUpTo high (rows ++ row ∷ [])
up-more high [] row h le = (le, tt)
up-more high (r ∷ rows) row h le = (h.0, up-more high rows row h.1 le)

-- the time of a row of the table
pub time-between : (low high : ℕ) (rows : List TableRow) (n : ℕ) → AreTimed low rows → AreUpTo high rows → n < length rows
    → (low ≤ time_of 0 (slice_get rows n)) × (time_of 0 (slice_get rows n) ≤ high)
time-between low high [] n h u lt = absurd (omega arith)
time-between low high (r ∷ rows) zero h u lt = (h.0, u.0)
time-between low high (r ∷ rows) (suc n) h u lt =
    let on = time-between r.step.time high rows n h.1 u.1 (omega arith) in
    ((let a = on.0 in let b = h.0 in omega (arith, a, b)), on.1)

-- a later row has no lesser time
pub times-rise : (low : ℕ) (rows : List TableRow) (m n : ℕ) → AreTimed low rows → m ≤ n → n < length rows → time_of 0 (slice_get rows m) ≤ time_of 0 (slice_get rows n)
times-rise low [] m n h le lt = absurd (omega arith)
times-rise low (r ∷ rows) zero zero h le lt = omega arith
times-rise low (r ∷ rows) (suc m) zero h le lt = absurd (omega arith)
times-rise low (r ∷ rows) zero (suc n) h le lt = from r.step.time rows n h.1 (omega arith)
  where
    from : (low : ℕ) (rows : List TableRow) (n : ℕ) → AreTimed low rows → n < length rows → low ≤ time_of 0 (slice_get rows n)
    from low [] n h lt = absurd (omega arith)
    from low (r ∷ rows) zero h lt = h.0
    from low (r ∷ rows) (suc n) h lt = let on = from r.step.time rows n h.1 (omega arith) in let a = h.0 in omega (arith, on, a)
times-rise low (r ∷ rows) (suc m) (suc n) h le lt = times-rise r.step.time rows m n h.1 (omega arith) (omega arith)

-- the row that is made is that of its step
module _ (plan : Plan) (start : ℕ) (rows : List TableRow) (step : Step) where
  asked-step : (d : ℕ) → (asked plan start rows step d).step ≡ step
  asked-step zero = refl
  asked-step (suc d) = refl

  closing-step : (row : TableRow) → (closing plan start rows row).step ≡ row.step
  closing-step row = by (has_evaluation_fault row.streams)
    where
      by : (b : Bool) → (if b then row else record { step = row.step; streams = closes_from plan start rows row 0 plan.spec.streams row.streams }).step ≡ row.step
      by true = refl
      by false = refl

  pub answered-step : (answered plan start rows step).step ≡ step
  answered-step = closing-step (asked plan start rows step (length (nodes_of plan.spec))) ∙ asked-step (length (nodes_of plan.spec))

-- what is due before the first step is not before the start

mapped-le : (start : ℕ) (o : Option ℕ) (t : ℕ) → option_map (λ x. start + x) o ≡ Some t → start ≤ t
mapped-le start None t e = absurd (cc)
mapped-le start (Some x) t e = let q : start + x ≡ t = cc in omega arith

none-due : (counted : ℕ) (rates : List Ratio) (from : ℕ) → rates ≡ [] → first_due counted rates from ≡ None
none-due counted rates from e = ap (λ (rs : List Ratio). first_due counted rs from) e

earlier-none : (o : Option ℕ) → earlier o None ≡ o
earlier-none None = refl
earlier-none (Some t) = refl

module _ (plan : Plan) (accepted : IsAccepted plan) where
  no-instances : (n : ℕ) (s : Stream) → slice_get plan.spec.streams n ≡ Some s → due_of_instances plan [] (local_rates (slice_get plan.pacings n)) (survivors n s None) ≡ None
  no-instances n s at = by s.spawn refl
    where
      by : (o : Option Clause) → s.spawn ≡ o → due_of_instances plan [] (local_rates (slice_get plan.pacings n)) (elim o as (λ _. List Instance) [ None ↦ the_instance ∷ [] | Some k ↦ [] ]) ≡ None
      by None e = earlier-none (first_due 0 (local_rates (slice_get plan.pacings n)) 0) ∙ none-due 0 (local_rates (slice_get plan.pacings n)) 0 (no_local_rates plan.spec plan.pacings accepted.paced n s at e)
      by (Some k) e = refl

  no-streams : (n : ℕ) (ss : List Stream) → ((j : ℕ) (s : Stream) → slice_get ss j ≡ Some s → slice_get plan.spec.streams (n + j) ≡ Some s) → due_of_streams plan [] n ss ≡ None
  no-streams n [] at = refl
  no-streams n (s ∷ ss) at =
      let here : slice_get plan.spec.streams n ≡ Some s = subst (λ (x : ℕ). slice_get plan.spec.streams x ≡ Some s) (omega arith) (at 0 s refl) in
      ap (λ (o : Option ℕ). earlier o (due_of_streams plan [] (n + 1) ss)) (no-instances n s here)
      ∙ no-streams (n + 1) ss (λ j t q. subst (λ (x : ℕ). slice_get plan.spec.streams x ≡ Some t) (omega arith) (at (suc j) t q))

  first-not-before : (start t : ℕ) → due plan [] start ≡ Some t → start ≤ t
  first-not-before start t e =
      let none = no-streams 0 plan.spec.streams (λ j s q. subst (λ (x : ℕ). slice_get plan.spec.streams x ≡ Some s) (let z : j ≡ 0 + j = omega arith in z) q) in
      let alone : due plan [] start ≡ first_due start (rates_of plan.pacings) 0 =
      ap (λ (o : Option ℕ). earlier (first_due start (rates_of plan.pacings) 0) o) none ∙ earlier-none (first_due start (rates_of plan.pacings) 0) in
      mapped-le start (first_after (rates_of plan.pacings) (0 - start - 1)) t (sym alone ∙ e)

  -- and later ones not before the last step
  open-after-le : (step : Step) → step.time ≤ open_after step
  open-after-le step = by step.fields
    where
      by : (o : Option (List Field)) → step.time ≤ elim o as (λ _. ℕ) [ None ↦ step.time + 1 | Some fields ↦ step.time ]
      by None = omega arith
      by (Some fs) = omega arith

  due-not-fallen : (start : ℕ) (table : List TableRow) (t : ℕ) → due plan table start ≡ Some t → time_of_last start (last_row table) ≤ t
  due-not-fallen start [] t e = first-not-before start t e
  due-not-fallen start (r ∷ rows) t e = by (last_row (r ∷ rows)) refl (there r rows)
    where
      there : (r : TableRow) (rows : List TableRow) → (q : TableRow) × (last_row (r ∷ rows) ≡ Some q)
      there r [] = (r, refl)
      there r (q ∷ rows) = there q rows

      by : (o : Option TableRow) → last_row (r ∷ rows) ≡ o → (q : TableRow) × (last_row (r ∷ rows) ≡ Some q) → time_of_last start o ≤ t
      by None f w = let z = w.1 in absurd (cc)
      by (Some q) f w =
          let open' : open_from (last_row (r ∷ rows)) ≤ t = due_not_before plan (r ∷ rows) accepted.rates start t e in
          let same : open_from (last_row (r ∷ rows)) ≡ open_after q.step = ap open_from f in
          let le = open-after-le q.step in
          omega (arith, open', same, le)

-- rows have a field for each input, each absent or of the input's kind
abbrev pub AllFit : List Kind → List Row → Type 0
AllFit ks [] = Unit {0}
AllFit ks (r ∷ rs) = AllZip IsFieldOf ks r.fields × AllFit ks rs

-- where a run is: the rows taken and those left, which are not before the last step
pub record HasRowsLeft (plan : Plan) (start high : ℕ) (journal : List Row) (table : List TableRow) : Type 0 where
  pub front : List Row
  pub left : List Row
  pub at : IsAt journal table front left
  pub ordered : DoNotFall (time_of_last start (last_row table)) left
  pub ahead : StampsUpTo high left
  pub fits : AllFit (input_kinds plan.spec.streams) left
  pub timed : AreTimed start table
  pub up_to : AreUpTo high table

-- a step after which it is under way too
pub record IsNext (plan : Plan) (start high : ℕ) (journal : List Row) (table : List TableRow) (step : Step) : Type 0 where
  pub way : (row : TableRow) → row.step ≡ step → HasRowsLeft plan start high journal (table ++ row ∷ [])
  pub fields : AreFieldsOf (input_kinds plan.spec.streams) step.fields

module _ (plan : Plan) (accepted : IsAccepted plan) (start high : ℕ) (journal : List Row) (table : List TableRow) where
  -- behind one more row
  last-time : (row : TableRow) → time_of_last start (last_row (table ++ row ∷ [])) ≡ row.step.time
  last-time row = ap (time_of_last start) (last_row-append table row)

  of-row : (front : List Row) (r : Row) (left : List Row) → IsAt journal table front (r ∷ left) → DoNotFall (time_of_last start (last_row table)) (r ∷ left) → StampsUpTo high (r ∷ left)
      → AllFit (input_kinds plan.spec.streams) (r ∷ left) → AreTimed start table → AreUpTo high table → IsNext plan start high journal table (row_step r)
  of-row front r left at ordered ahead fits timed up = record {
    way = λ row e.
        let time : row.step.time ≡ r.stamp = ap (λ (s : Step). s.time) e in
        let le = ordered.0 in
        let top = ahead.0 in
        record {
          front = front ++ r ∷ [];
          left = left;
          at = at_row journal table front r left row at e;
          ordered = subst (λ (t : ℕ). DoNotFall t left) (sym (last-time row ∙ time)) ordered.1;
          ahead = ahead.1;
          fits = fits.1;
          timed = timed-more start table row timed (omega (arith, le, time));
          up_to = up-more high table row up (omega (arith, top, time));
        };
    fields = fits.0;
  }

  of-deadlines : (front : List Row) (r : Row) (left : List Row) (t : ℕ) → IsAt journal table front (r ∷ left) → DoNotFall (time_of_last start (last_row table)) (r ∷ left) → StampsUpTo high (r ∷ left)
      → AllFit (input_kinds plan.spec.streams) (r ∷ left) → AreTimed start table → AreUpTo high table → due plan table start ≡ Some t → t < r.stamp
      → IsNext plan start high journal table (deadline_step t)
  of-deadlines front r left t at ordered ahead fits timed up d lt = record {
    way = λ row e.
        let time : row.step.time ≡ t = ap (λ (s : Step). s.time) e in
        let le = due-not-fallen plan accepted start table t d in
        let top = ahead.0 in
        let before : t ≤ r.stamp = omega arith in
        record {
          front = front;
          left = r ∷ left;
          at = at_deadlines journal table front (r ∷ left) row t at e;
          ordered = subst (λ (x : ℕ). DoNotFall x (r ∷ left)) (sym (last-time row ∙ time)) (before, ordered.1);
          ahead = ahead;
          fits = fits;
          timed = timed-more start table row timed (omega (arith, le, time));
          up_to = up-more high table row up (omega (arith, top, time, lt));
        };
    fields = tt;
  }

  by-left : (front left : List Row) (step : Step) → IsAt journal table front left → DoNotFall (time_of_last start (last_row table)) left → StampsUpTo high left
      → AllFit (input_kinds plan.spec.streams) left → AreTimed start table → AreUpTo high table → step_before (first_of left) 0 (due plan table start) ≡ Some step
      → IsNext plan start high journal table step
  by-left front [] step at ordered ahead fits timed up e = by (what_comes (due plan table start) 0 None)
    where
      by : Comes (due plan table start) 0 None (below_or (due plan table start) 0 None) → IsNext plan start high journal table step
      by (AreDue t d lt q) = absurd (omega arith)
      by (AreNot q over) = absurd (cc)
  by-left front (r ∷ left) step at ordered ahead fits timed up e = by (what_comes (due plan table start) r.stamp (Some (row_step r)))
    where
      by : Comes (due plan table start) r.stamp (Some (row_step r)) (below_or (due plan table start) r.stamp (Some (row_step r))) → IsNext plan start high journal table step
      by (AreDue t d lt q) =
          let same : deadline_step t ≡ step = cc in
          subst (IsNext plan start high journal table) same (of-deadlines front r left t at ordered ahead fits timed up d lt)
      by (AreNot q over) =
          let same : row_step r ≡ step = cc in
          subst (IsNext plan start high journal table) same (of-row front r left at ordered ahead fits timed up)

  -- the settled step that comes next
  pub comes-next : HasRowsLeft plan start high journal table → (step : Step) → next_settled plan start journal table ≡ Some step → IsNext plan start high journal table step
  comes-next h step e =
      by-left h.front h.left step h.at h.ordered h.ahead h.fits h.timed h.up_to
      (ap (λ (o : Option Row). step_before o 0 (due plan table start)) (sym (next_row journal table h.front h.left h.at)) ∙ e)

-- at first
pub under-way-first : (plan : Plan) (start high : ℕ) (journal : List Row) → DoNotFall start journal → StampsUpTo high journal → AllFit (input_kinds plan.spec.streams) journal → HasRowsLeft plan start high journal []
under-way-first plan start high journal ordered ahead fits = record {
  front = [];
  left = journal;
  at = at_first journal;
  ordered = ordered;
  ahead = ahead;
  fits = fits;
  timed = tt;
  up_to = tt;
}
