-- Rows of sources that came in some order.
use Rattle.std.proofs.Common.{◌≡◌, refl, sym, subst, ◌∙◌, ap, ℕ, List, [], ◌∷◌, ◌++◌, Bool, true, false, cond, nat_eq, Option, append_assoc, length-append, eq-eqb, suc, arith}
use Rattle.std.proofs.lemmas.List.{get_or_append_left}
use Rattle.std.proofs.lemmas.List.Elements.{All-cons, All-nil}
use Rattle.std.specs.List.{All}
use Rattle.lola_model.specs.Journal.{IsLegal, opening_time, rows_of}
use Rattle.lola_model.specs.declared.journal.Entry.{Entry}
use Rattle.lola_model.specs.declared.journal.Row.{Row}
use Rattle.lola_model.specs.declared.plan.Plan.{Plan}
use Rattle.lola_model.proofs.Journals.{IsLegalFrom-append_left, rows_of-append}
use Rattle.lola_merge.specs.Interleaving.{EveryOrderInterleaves, Interleaves, Situation, StandRight, beginning, list_of, run}
use Rattle.lola_merge.specs.declared.world.Actor.{Actor}
use Rattle.lola_monitor_run.specs.Handing.{HasRowFor, IsRowFor}
use Rattle.lola_monitor_run.specs.Schedules.{AreFirst, HasRowsFor}

-- a world that came by these turns
pub came_so : EveryOrderInterleaves → (lists : List (List Row)) (start : Option ℕ) (actors : List Actor) (w : Situation) → StandRight lists → w ≡ run (beginning lists start) actors → Interleaves lists start w
came_so every lists start actors w right came = subst (Interleaves lists start) (sym came) (every lists start actors right)

-- what was taken is a legal journal
pub taken_legal : (lists : List (List Row)) (start : Option ℕ) (w : Situation) → Interleaves lists start w → IsLegal start w.taken
taken_legal lists start w i = IsLegalFrom-append_left (opening_time start) w.taken w.merging.pending i.legal

-- of the first rows of each source
pub taken_first : (lists : List (List Row)) (start : Option ℕ) (w : Situation) → Interleaves lists start w → AreFirst lists w.taken
taken_first lists start w i = λ source. (
  rows_of source w.merging.pending ++ list_of w.to_come source,
  sym (i.rows source)
      ∙ (ap (λ (rows : List Row). rows ++ list_of w.to_come source) (rows_of-append source w.taken w.merging.pending)
      ∙ append_assoc (rows_of source w.taken) (rows_of source w.merging.pending) (list_of w.to_come source)),
)

-- what holds of all, holds of the first
All-left : (P : Row → Type 0) (xs ys : List Row) → All P (xs ++ ys) → All P xs
All-left P xs ys all = λ k d lt. subst P (get_or_append_left xs ys d k lt) (all k d (omega (arith, length-append xs ys)))

-- the first row and the others
All-first : (P : Row → Type 0) (x : Row) (xs : List Row) → All P (x ∷ xs) → P x
All-first P x xs all = all 0 x (omega arith)

All-rest : (P : Row → Type 0) (x : Row) (xs : List Row) → All P (x ∷ xs) → All P xs
All-rest P x xs all = λ k d lt. all (suc k) d (omega arith)

-- what holds of the rows of each source, holds of those of all entries
module _ (P : Row → Type 0) where
  own_row : (e : Entry) (rows : List Row) (b : Bool) → b ≡ true → All P (cond b (e.row ∷ rows) rows) → P e.row
  own_row e rows true is all = All-first P e.row rows all
  own_row e rows false is all = absurd (cc)

  other_rows : (e : Entry) (rows : List Row) (b : Bool) → All P (cond b (e.row ∷ rows) rows) → All P rows
  other_rows e rows true all = All-rest P e.row rows all
  other_rows e rows false all = all

  each_row : (journal : List Entry) → ((source : ℕ) → All P (rows_of source journal)) → All (λ (e : Entry). P e.row) journal
  each_row [] each = All-nil (λ (e : Entry). P e.row)
  each_row (e ∷ journal) each =
      All-cons (λ (e : Entry). P e.row) e journal
      (own_row e (rows_of e.row.source journal) (nat_eq e.row.source e.row.source) (eq-eqb e.row.source e.row.source refl) (each e.row.source))
      (each_row journal (λ source. other_rows e (rows_of source journal) (nat_eq e.row.source source) (each source)))

-- so the engine takes the rows of what was taken
pub taken_fit : (plan : Plan) (start : Option ℕ) (w : Situation) → HasRowsFor plan start w → All (HasRowFor plan) w.taken
taken_fit plan start w has =
    each_row (IsRowFor plan) w.taken
    (λ source. let first = taken_first has.lists start w has.interleaves source in
    All-left (IsRowFor plan) (rows_of source w.taken) first.0 (subst (All (IsRowFor plan)) first.1 (has.fit source)))
