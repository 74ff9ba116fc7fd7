-- The taker's merge object stands for the items that were popped.
use Rattle.std.proofs.Common.{◌≡◌, ℕ, ◌+◌, ◌<◌, ◌≤◌, Bool, true, false, List, [], ◌∷◌, ◌++◌, length, cond, nat_lt, nat_le, Option, get_or, set, length-set, get_or-set_same, get_or-set_other, sym, refl, ap, ◌∙◌, subst, arith, append_assoc, append-nil, length-append, eqb, ltb-true, ltb-false, leb-true}
use mathlib.Core.Logic.{dite}
use native.Mathlib.Decide.{ℕ_discrete}
use Rattle.lola_model.specs.Journal.{opening_time, time_after, merged_from, IsRightlyMarked, IsLegalFrom}
use Rattle.lola_model.specs.declared.journal.Row.{Row}
use Rattle.lola_model.specs.declared.journal.Entry.{Entry}
use Rattle.lola_model.specs.declared.journal.Mark.TheVariants as mark
use Rattle.lola_model.proofs.Journals.{merged_from-append}
use Rattle.lola_merge.specs.declared.state.Offer.TheVariants as reply
use Rattle.lola_merge.specs.Merging.{Merging, marked, offer_reply, replied, offer_after, take_after}
use Rattle.lola_queue_intake.specs.declared.item.Item.{Item}
use Rattle.lola_queue_intake.specs.declared.item.Item.TheVariants as item
use Rattle.lola_queue_intake.specs.Deliveries.{items_of, rows_in, has_finish}
use Rattle.lola_queue_intake.specs.Intakes.{entry_at, entries, Mirrors, after_item}
use Rattle.lola_queue_intake.proofs.Items.{items_of-append, own_item, other_item}
use Rattle.lola_queue_intake.proofs.Telling.{has_finish-row, has_finish-finish}

pub entries-append : (o : ℕ) (xs ys : List Item) → entries o (xs ++ ys) ≡ entries o xs ++ entries (merged_from o (entries o xs)) ys
entries-append o [] ys = refl
entries-append o (item.Row row ∷ xs) ys = ap (λ l. entry_at o row ∷ l) (entries-append (time_after o (entry_at o row)) xs ys)
entries-append o (item.Finish s ∷ xs) ys = entries-append o xs ys

is_right : (o : ℕ) (row : Row) → IsRightlyMarked o (entry_at o row)
is_right o row = by_late (nat_lt row.stamp o) refl
  where
    by_late : (b : Bool) → nat_lt row.stamp o ≡ b → IsRightlyMarked o (marked row (cond b (mark.Late o) mark.Accepted))
    by_late true e = (refl, ltb-true row.stamp o e)
    by_late false e = ltb-false row.stamp o e

-- each row is marked by the merged time at its pop
pub entries_legal : (o : ℕ) (xs : List Item) → IsLegalFrom o (entries o xs)
entries_legal o [] = tt
entries_legal o (item.Row row ∷ xs) = (is_right o row, entries_legal (time_after o (entry_at o row)) xs)
entries_legal o (item.Finish s ∷ xs) = entries_legal o xs

-- an offered row is let in where there is room and nobody closed
let_in : (m : Merging) (row : Row) → m.closed ≡ false → length m.pending < 1024
    → offer_after m row ≡ record m { pending = m.pending ++ entry_at m.merged row ∷ []; merged = time_after m.merged (entry_at m.merged row) }
let_in m row not_closed room = ap (replied m row) answer ∙ by_late (nat_lt row.stamp m.merged)
  where
    not_full : (b : Bool) → nat_le 1024 (length m.pending) ≡ b → b ≡ false
    not_full true e = let le = leb-true 1024 (length m.pending) e in absurd (omega arith)
    not_full false e = refl

    answer : offer_reply m row ≡ cond (nat_lt row.stamp m.merged) (reply.Late m.merged) reply.Accepted
    answer = ap (λ b. cond b (reply.Closed row) (cond (nat_le 1024 (length m.pending)) (reply.Full row) (cond (nat_lt row.stamp m.merged) (reply.Late m.merged) reply.Accepted))) not_closed
        ∙ ap (λ b. cond b (reply.Full row) (cond (nat_lt row.stamp m.merged) (reply.Late m.merged) reply.Accepted)) (not_full (nat_le 1024 (length m.pending)) refl)

    by_late : (b : Bool) → replied m row (cond b (reply.Late m.merged) reply.Accepted)
        ≡ record m { pending = m.pending ++ marked row (cond b (mark.Late m.merged) mark.Accepted) ∷ []; merged = time_after m.merged (marked row (cond b (mark.Late m.merged) mark.Accepted)) }
    by_late true = refl
    by_late false = refl

-- a row is no finish of any source
row_finishes_none : (s : ℕ) (row : Row) (xs : List Item) → has_finish (items_of s (xs ++ item.Row row ∷ [])) ≡ has_finish (items_of s xs)
row_finishes_none s row xs = ap has_finish (items_of-append s xs (item.Row row ∷ [])) ∙ either (eqb row.source s)
  where
    either : (b : Bool) → has_finish (items_of s xs ++ cond b (item.Row row ∷ []) []) ≡ has_finish (items_of s xs)
    either true = has_finish-row (items_of s xs) row
    either false = ap has_finish (append-nil (items_of s xs))

-- one item more
pub mirrors_more : (start : Option ℕ) (popped : List Item) (done : List Entry) (m : Merging) (x : Item) → length m.pending < 1024 → Mirrors start popped done m → Mirrors start (popped ++ x ∷ []) done (after_item m x)
mirrors_more start popped done m (item.Row row) room h =
    let o : ℕ = opening_time start in
    let e : Entry = entry_at m.merged row in
    let after = let_in m row h.closed room in
    let same : entries o (popped ++ item.Row row ∷ []) ≡ entries o popped ++ e ∷ [] = entries-append o popped (item.Row row ∷ []) ∙ ap (λ t. entries o popped ++ entry_at t row ∷ []) (sym h.merged) in
    subst (Mirrors start (popped ++ item.Row row ∷ []) done) (sym after) record {
      pending = same ∙ (ap (λ l. l ++ e ∷ []) h.pending ∙ append_assoc done m.pending (e ∷ []));
      merged = ap (λ t. time_after t e) h.merged ∙ (sym (merged_from-append o (entries o popped) (e ∷ [])) ∙ ap (merged_from o) (sym same));
      finished = λ s l. h.finished s l ∙ sym (row_finishes_none s row popped);
      closed = h.closed;
    }
mirrors_more start popped done m (item.Finish q) room h =
    let o : ℕ = opening_time start in
    let same : entries o (popped ++ item.Finish q ∷ []) ≡ entries o popped = entries-append o popped (item.Finish q ∷ []) ∙ append-nil (entries o popped) in record {
      pending = same ∙ h.pending;
      merged = h.merged ∙ ap (merged_from o) (sym same);
      finished = λ s l. let k : length (set m.finished q true) ≡ length m.finished = length-set m.finished q true in dite (ℕ_discrete s q)
          (λ is. ap (λ t. get_or (set m.finished t true) s false) (sym is)
          ∙ (get_or-set_same m.finished s true false (omega arith) ∙ sym (ap has_finish (own_item s (item.Finish q) popped (sym is)) ∙ has_finish-finish (items_of s popped) q)))
          (λ ne. get_or-set_other m.finished q s true false ne ∙ (h.finished s (omega arith) ∙ sym (ap has_finish (other_item s (item.Finish q) popped (λ e. ne (sym e))))));
      closed = h.closed;
    }

-- how many rows are pending after an item
pub pending_more : (m : Merging) (x : Item) → m.closed ≡ false → length m.pending < 1024 → length (after_item m x).pending ≡ length m.pending + length (rows_in (x ∷ []))
pending_more m (item.Row row) not_closed room = ap (λ (n : Merging). length n.pending) (let_in m row not_closed room) ∙ length-append m.pending (entry_at m.merged row ∷ [])
pending_more m (item.Finish q) not_closed room = omega arith

-- nobody closes it
pub still_open : (m : Merging) (x : Item) → m.closed ≡ false → length m.pending < 1024 → (after_item m x).closed ≡ false
still_open m (item.Row row) not_closed room = ap (λ (n : Merging). n.closed) (let_in m row not_closed room) ∙ not_closed
still_open m (item.Finish q) not_closed room = not_closed

-- what is pending is taken
pub mirrors_taken : (start : Option ℕ) (popped : List Item) (done : List Entry) (m : Merging) → Mirrors start popped done m → Mirrors start popped (entries (opening_time start) popped) (take_after m)
mirrors_taken start popped done m h = record {
  pending = sym (append-nil (entries (opening_time start) popped));
  merged = h.merged;
  finished = h.finished;
  closed = h.closed;
}

pub at_most_one : (x : Item) → length (rows_in (x ∷ [])) ≤ 1
at_most_one (item.Row row) = omega arith
at_most_one (item.Finish q) = omega arith
