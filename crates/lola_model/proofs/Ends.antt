-- The steps that come one by one end: each is of a row, or of a moment up to the last stamp.
use Rattle.std.proofs.Common.{◌≡◌, refl, ap, ◌∙◌, sym, ℕ, zero, suc, ◌+◌, ◌-◌, ◌<◌, ◌≤◌, List, [], ◌∷◌, ◌++◌, Option, Some, None, true, false, arith, length, length-append, nat_lt, append_assoc}
use Rattle.std.proofs.lemmas.Bool.{ltb-true, ltb-false}
use Rattle.std.specs.List.{slice_get}
use Rattle.std.specs.Option.{option_map}
use Rattle.lola_value.specs.Ratio.{Ratio}
use Rattle.lola_model.specs.Table.{Step, Instance, TableRow}
use Rattle.lola_model.specs.Content.{time_of}
use Rattle.lola_model.specs.Steps.{deadline_step, row_step, rates_of, earlier_of_two, first_after}
use Rattle.lola_model.specs.StepOrder.{AreRates}
use Rattle.lola_model.specs.Model.{survivors, last_row, Next, EndsWithin}
use Rattle.lola_model.specs.NextStep.{earlier, first_due, open_after, open_from, due_of_instances, due_of_streams, due, taken_by, rows_taken, below_or, step_before, next_below, most_steps, HasRates}
use Rattle.lola_model.specs.declared.journal.Row.{Row}
use Rattle.lola_model.specs.declared.plan.Plan.{Plan}
use Rattle.lola_model.specs.declared.spec.Stream.{Stream}
use Rattle.lola_model.proofs.Deadlines.{first_after_above}
use Rattle.lola_model.proofs.Growth.{last_row-append}

-- what is due is not before what is open

abbrev pub NotBefore : ℕ → Option ℕ → Type 0
NotBefore from o = (t : ℕ) → o ≡ Some t → from ≤ t

earlier_not_before : (from : ℕ) (a b : Option ℕ) → NotBefore from a → NotBefore from b → NotBefore from (earlier a b)
earlier_not_before from None b h g = g
earlier_not_before from (Some s) None h g = λ t e. let k : from ≤ s = h s refl in let q : s ≡ t = cc in omega arith
earlier_not_before from (Some s) (Some r) h g =
    λ t e. let k : from ≤ s = h s refl in let l : from ≤ r = g r refl in let q : earlier_of_two (Some r) s ≡ t = cc in omega arith

pub first_due_not_before : (counted : ℕ) (rates : List Ratio) (from : ℕ) → AreRates rates → NotBefore from (first_due counted rates from)
first_due_not_before counted rates from h = go (first_after rates (from - counted - 1)) refl
  where
    go : (o : Option ℕ) → first_after rates (from - counted - 1) ≡ o → NotBefore from (option_map (λ t. counted + t) o)
    go None e = λ t q. absurd (cc)
    go (Some s) e = λ t q. let k : from - counted - 1 < s = first_after_above rates (from - counted - 1) s h e in let l : counted + s ≡ t = cc in omega arith

module _ (plan : Plan) (table : List TableRow) (has : HasRates plan.pacings) where
  abbrev from : ℕ
  from = open_from (last_row table)

  instances_not_before : (rates : List Ratio) (is : List Instance) → AreRates rates → NotBefore from (due_of_instances plan table rates is)
  instances_not_before rates [] h = λ t e. absurd (cc)
  instances_not_before rates (i ∷ is) h =
      earlier_not_before from _ _ (first_due_not_before (time_of 0 (slice_get table i.born)) rates from h) (instances_not_before rates is h)

  streams_not_before : (n : ℕ) (ss : List Stream) → NotBefore from (due_of_streams plan table n ss)
  streams_not_before n [] = λ t e. absurd (cc)
  streams_not_before n (s ∷ ss) =
      earlier_not_before from _ _ (instances_not_before _ (survivors n s (last_row table)) (has.counted_from_births n)) (streams_not_before (n + 1) ss)

  pub due_not_before : (start : ℕ) → NotBefore from (due plan table start)
  due_not_before start =
      earlier_not_before from _ _ (first_due_not_before start (rates_of plan.pacings) from has.counted_from_start) (streams_not_before 0 plan.spec.streams)

-- what a table has behind one more row

pub open_from-append : (table : List TableRow) (row : TableRow) → open_from (last_row (table ++ row ∷ [])) ≡ open_after row.step
open_from-append table row = ap open_from (last_row-append table row)

pub rows_taken-append : (table : List TableRow) (row : TableRow) → rows_taken (table ++ row ∷ []) ≡ rows_taken table + taken_by row.step
rows_taken-append [] row = omega arith
rows_taken-append (r ∷ table) row = let e = rows_taken-append table row in omega arith

-- the first of some rows
abbrev pub first_of : List Row → Option Row
first_of [] = None
first_of (r ∷ rs) = Some r

pub slice_get-seam : (front left : List Row) → slice_get (front ++ left) (length front) ≡ first_of left
slice_get-seam [] [] = refl
slice_get-seam [] (r ∷ left) = refl
slice_get-seam (f ∷ front) left = slice_get-seam front left

-- where a run is: the rows that are taken and those that are left
pub record IsAt (rows : List Row) (table : List TableRow) (front left : List Row) : Type 0 where
  pub joined : rows ≡ front ++ left
  pub taken : rows_taken table ≡ length front

-- at first
pub at_first : (rows : List Row) → IsAt rows [] [] rows
at_first rows = record { joined = refl; taken = refl }

-- which row comes next
pub next_row : (rows : List Row) (table : List TableRow) (front left : List Row) → IsAt rows table front left → slice_get rows (rows_taken table) ≡ first_of left
next_row rows table front left at = ap (slice_get rows) at.taken ∙ (ap (λ rs. slice_get rs (length front)) at.joined ∙ slice_get-seam front left)

-- behind the step of a row
pub at_row : (rows : List Row) (table : List TableRow) (front : List Row) (r : Row) (left : List Row) (row : TableRow)
    → IsAt rows table front (r ∷ left) → row.step ≡ row_step r → IsAt rows (table ++ row ∷ []) (front ++ r ∷ []) left
at_row rows table front r left row at e = record {
  joined = at.joined ∙ sym (append_assoc front (r ∷ []) left);
  taken =
      let a : rows_taken (table ++ row ∷ []) ≡ rows_taken table + taken_by row.step = rows_taken-append table row in
      let b : taken_by row.step ≡ 1 = ap taken_by e in
      let c : rows_taken table ≡ length front = at.taken in
      omega (arith, length-append front (r ∷ []));
}

-- behind the step of deadlines
pub at_deadlines : (rows : List Row) (table : List TableRow) (front left : List Row) (row : TableRow) (t : ℕ)
    → IsAt rows table front left → row.step ≡ deadline_step t → IsAt rows (table ++ row ∷ []) front left
at_deadlines rows table front left row t at e = record {
  joined = at.joined;
  taken =
      let a : rows_taken (table ++ row ∷ []) ≡ rows_taken table + taken_by row.step = rows_taken-append table row in
      let b : taken_by row.step ≡ 0 = ap taken_by e in
      let c : rows_taken table ≡ length front = at.taken in
      omega arith;
}

-- what may come: the deadlines of a moment that is due, or what comes otherwise
pub data Comes (o : Option ℕ) (limit : ℕ) (other result : Option Step) : Type 0 where
  AreDue : (t : ℕ) → (o ≡ Some t) → (t < limit) → (result ≡ Some (deadline_step t)) → Comes o limit other result
  AreNot : (result ≡ other) → ((t : ℕ) → o ≡ Some t → limit ≤ t) → Comes o limit other result

pub what_comes : (o : Option ℕ) (limit : ℕ) (other : Option Step) → Comes o limit other (below_or o limit other)
what_comes None limit other = AreNot refl (λ t e. absurd (cc))
what_comes (Some t) limit other = elim (nat_lt t limit) as (λ b. nat_lt t limit ≡ b → Comes (Some t) limit other (below_or (Some t) limit other)) [
  | true ↦ λ q. AreDue t refl (ltb-true t limit q) (rw q refl)
  | false ↦ λ q. AreNot (rw q refl) (λ s e. let k : limit ≤ t = ltb-false t limit q in let l : t ≡ s = cc in omega arith)
] refl

-- the step is the one that comes
the_step : (o : Option Step) (s t : Step) → o ≡ Some s → o ≡ Some t → s ≡ t
the_step None s t e g = absurd (cc)
the_step (Some r) s t e g = let a : r ≡ s = cc in let b : r ≡ t = cc in sym a ∙ b

module _ (plan : Plan) (start : ℕ) (rows : List Row) (has : HasRates plan.pacings) (limit : ℕ) where
  abbrev next : Next
  next = next_below plan start rows limit

  abbrev opened : List TableRow → ℕ
  opened table = open_from (last_row table)

  -- how many steps may still come
  abbrev left_over : List TableRow → List Row → ℕ
  left_over table left = most_steps limit (opened table) left

  Ends : ℕ → List TableRow → Type 0
  Ends most table = EndsWithin plan start next most table

  comes_by : (table : List TableRow) (front left : List Row) → IsAt rows table front left → next table ≡ step_before (first_of left) limit (due plan table start)
  comes_by table front left at = ap (λ o. step_before o limit (due plan table start)) (next_row rows table front left at)

  none_comes : (table : List TableRow) (front left : List Row) → IsAt rows table front left → left_over table left ≤ 0 → next table ≡ None
  none_comes table front (r ∷ left) at h = absurd (omega arith)
  none_comes table front [] at h = comes_by table front [] at ∙ go (what_comes (due plan table start) limit None)
    where
      go : Comes (due plan table start) limit None (below_or (due plan table start) limit None) → below_or (due plan table start) limit None ≡ None
      go (AreDue t e lt r) = let k : opened table ≤ t = due_not_before plan table has start t e in absurd (omega arith)
      go (AreNot r not) = r

  -- behind one more step fewer may come
  pub one_fewer : (table : List TableRow) (front left : List Row) (row : TableRow) → IsAt rows table front left → next table ≡ Some row.step
      → (front' : List Row) × (left' : List Row) × IsAt rows (table ++ row ∷ []) front' left' × (suc (left_over (table ++ row ∷ []) left') ≤ left_over table left)
  one_fewer table front [] row at e = go (what_comes (due plan table start) limit None)
    where
      go : Comes (due plan table start) limit None (below_or (due plan table start) limit None)
          → (front' : List Row) × (left' : List Row) × IsAt rows (table ++ row ∷ []) front' left' × (suc (left_over (table ++ row ∷ []) left') ≤ left_over table [])
      go (AreDue t d lt r) =
          let s : row.step ≡ deadline_step t = the_step (next table) row.step (deadline_step t) e (comes_by table front [] at ∙ r) in
          let k : opened table ≤ t = due_not_before plan table has start t d in
          let o : opened (table ++ row ∷ []) ≡ t + 1 = open_from-append table row ∙ ap open_after s in
          (front, [], at_deadlines rows table front [] row t at s, rw o (omega arith))
      go (AreNot r not) = let q = comes_by table front [] at ∙ r in absurd (cc)
  one_fewer table front (r ∷ left) row at e = go (what_comes (due plan table start) r.stamp (Some (row_step r)))
    where
      go : Comes (due plan table start) r.stamp (Some (row_step r)) (below_or (due plan table start) r.stamp (Some (row_step r)))
          → (front' : List Row) × (left' : List Row) × IsAt rows (table ++ row ∷ []) front' left' × (suc (left_over (table ++ row ∷ []) left') ≤ left_over table (r ∷ left))
      go (AreDue t d lt q) =
          let s : row.step ≡ deadline_step t = the_step (next table) row.step (deadline_step t) e (comes_by table front (r ∷ left) at ∙ q) in
          let k : opened table ≤ t = due_not_before plan table has start t d in
          let o : opened (table ++ row ∷ []) ≡ t + 1 = open_from-append table row ∙ ap open_after s in
          (front, r ∷ left, at_deadlines rows table front (r ∷ left) row t at s, rw o (omega arith))
      go (AreNot q not) =
          let s : row.step ≡ row_step r = the_step (next table) row.step (row_step r) e (comes_by table front (r ∷ left) at ∙ q) in
          let o : opened (table ++ row ∷ []) ≡ r.stamp = open_from-append table row ∙ ap open_after s in
          (front ++ r ∷ [], left, at_row rows table front r left row at s, rw o (omega arith))

  pub ends : (most : ℕ) (table : List TableRow) (front left : List Row) → IsAt rows table front left → left_over table left ≤ most → EndsWithin plan start next most table
  ends zero table front left at h = none_comes table front left at h
  ends (suc most) table front left at h =
      λ row comes lawful.
      let w = one_fewer table front left row at comes in
      ends most (table ++ row ∷ []) w.0 w.1 w.2 (let k = w.3 in omega arith)

  -- the steps of a run
  pub steps_end : EndsWithin plan start next (most_steps limit 0 rows) []
  steps_end = ends (most_steps limit 0 rows) [] [] rows (at_first rows) (omega arith)
