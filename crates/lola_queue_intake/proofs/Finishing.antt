-- What is known at the end.
use Rattle.std.proofs.Common.{◌≡◌, ℕ, zero, suc, ◌<◌, ◌≤◌, Bool, true, false, true≢false, List, [], ◌∷◌, ◌++◌, length, cond, All, Some, slice_get, sym, refl, ap, ◌∙◌, subst, arith, append-nil, length-append, eqb, eq-eqb, lt_of_not-le}
use mathlib.Core.Logic.{dite}
use native.Mathlib.Decide.{dec_le}
use Rattle.lola_model.specs.Journal.{opening_time, time_after, IsLegal, rows_of}
use Rattle.lola_model.specs.declared.journal.Entry.{Entry}
use Rattle.lola_merge.specs.Merging.{Merging}
use Rattle.lola_queue_intake.specs.declared.item.Item.{Item}
use Rattle.lola_queue_intake.specs.declared.item.Item.TheVariants as item
use Rattle.lola_queue_intake.specs.declared.closing.WordView.{WordView}
use Rattle.lola_queue_intake.specs.declared.delivery.Known.{Known}
use Rattle.lola_queue_intake.specs.declared.delivery.View.{View}
use Rattle.lola_queue_intake.specs.Closings.{IsClosedWhereFound}
use Rattle.lola_queue_intake.specs.Deliveries.{source_of, items_of, rows_in, has_finish, FinishesLast, Accounts}
use Rattle.lola_queue_intake.specs.Intakes.{SourceShown, TakerShown, entry_at, entries, taken, Whole, Mirrors, AgreesWith}
use Rattle.lola_queue_intake.proofs.Items.{items_of-append, nothing_behind}
use Rattle.lola_queue_intake.proofs.Mirroring.{entries_legal}

-- of each source the journal has the rows among its items
rows_are : (o s : ℕ) (xs : List Item) → rows_of s (entries o xs) ≡ rows_in (items_of s xs)
rows_are o s [] = refl
rows_are o s (item.Row row ∷ xs) = either (eqb row.source s) (rows_are (time_after o (entry_at o row)) s xs)
  where
    either : (b : Bool) → rows_of s (entries (time_after o (entry_at o row)) xs) ≡ rows_in (items_of s xs)
        → cond b (row ∷ rows_of s (entries (time_after o (entry_at o row)) xs)) (rows_of s (entries (time_after o (entry_at o row)) xs)) ≡ rows_in (cond b (item.Row row ∷ items_of s xs) (items_of s xs))
    either true rec = ap (λ l. row ∷ l) rec
    either false rec = rec
rows_are o s (item.Finish q ∷ xs) = rows_are o s xs ∙ either (eqb q s)
  where
    either : (b : Bool) → rows_in (items_of s xs) ≡ rows_in (cond b (item.Finish q ∷ items_of s xs) (items_of s xs))
    either true = refl
    either false = refl

-- its own item is among the items of a source
its_own : (x : Item) (xs : List Item) → items_of (source_of x) (x ∷ xs) ≡ x ∷ items_of (source_of x) xs
its_own x xs = ap (λ b. cond b (x ∷ items_of (source_of x) xs) (items_of (source_of x) xs)) (eq-eqb (source_of x) (source_of x) refl)

-- where a source has no items, it has none behind the first
none_behind : (s : ℕ) (x : Item) (xs : List Item) → items_of s (x ∷ xs) ≡ [] → items_of s xs ≡ []
none_behind s x xs none = either (eqb (source_of x) s) refl
  where
    either : (b : Bool) → eqb (source_of x) s ≡ b → items_of s xs ≡ []
    either true e = let no : x ∷ items_of s xs ≡ [] = sym (ap (λ b. cond b (x ∷ items_of s xs) (items_of s xs)) e) ∙ none in absurd (cc)
    either false e = sym (ap (λ b. cond b (x ∷ items_of s xs) (items_of s xs)) e) ∙ none

-- the journal has no rows but those of so many sources
theirs_are : (n o : ℕ) (xs : List Item) → ((s : ℕ) → n ≤ s → items_of s xs ≡ []) → All (λ (e : Entry). e.row.source < n) (entries o xs)
theirs_are n o [] none i d less = absurd (omega arith)
theirs_are n o (item.Row row ∷ xs) none zero d less = dite (dec_le n row.source)
    (λ past. let no : item.Row row ∷ items_of row.source xs ≡ [] = sym (its_own (item.Row row) xs) ∙ none row.source past in absurd (cc))
    (λ no. lt_of_not-le no)
theirs_are n o (item.Row row ∷ xs) none (suc i) d less = theirs_are n (time_after o (entry_at o row)) xs (λ s past. none_behind s (item.Row row) xs (none s past)) i d (omega arith)
theirs_are n o (item.Finish q ∷ xs) none i d less = theirs_are n o xs (λ s past. none_behind s (item.Finish q) xs (none s past)) i d less

has_still : (xs ys : List Item) → has_finish xs ≡ true → has_finish (xs ++ ys) ≡ true
has_still [] ys has = absurd (true≢false (sym has))
has_still (item.Row row ∷ xs) ys has = has_still xs ys has
has_still (item.Finish s ∷ xs) ys has = refl

nothing_added : {A : Type 0} (xs ys : List A) → xs ++ ys ≡ xs → ys ≡ []
nothing_added xs [] e = refl
nothing_added xs (y ∷ ys) e = let n = ap length e in absurd (omega (arith, length-append xs (y ∷ ys)))

-- where the finish of each source was popped, there is nothing behind
nothing_more : (n : ℕ) (popped more : List Item) → ((s : ℕ) → n ≤ s → items_of s (popped ++ more) ≡ []) → ((s : ℕ) → FinishesLast (items_of s (popped ++ more)))
    → ((s : ℕ) → s < n → has_finish (items_of s popped) ≡ true) → more ≡ []
nothing_more n popped [] none last all = refl
nothing_more n popped (x ∷ xs) none last all =
    let s : ℕ = source_of x in
    let split : items_of s (popped ++ x ∷ xs) ≡ items_of s popped ++ x ∷ items_of s xs = items_of-append s popped (x ∷ xs) ∙ ap (λ l. items_of s popped ++ l) (its_own x xs) in
    dite (dec_le n s)
    (λ past. let no = ap length (sym split ∙ none s past) in absurd (omega (arith, length-append (items_of s popped) (x ∷ items_of s xs))))
    (λ no. let spent : x ∷ items_of s xs ≡ [] = nothing_behind (items_of s popped) (x ∷ items_of s xs) (subst FinishesLast split (last s)) (all s (lt_of_not-le no)) in absurd (cc))

pub whole : (t : TakerShown) (v : View) (more : List Item) (seats : List SourceShown) (left : List Entry) (m : Merging) (word_seat : WordView)
    → v.made ≡ t.sources → v.mine ≡ t.popped ++ more → Accounts v [] → Mirrors t.start v.mine (taken t) m → left ≡ m.pending
    → ((s : ℕ) (p : SourceShown) → slice_get seats s ≡ Some p → (k : Known) × (slice_get v.known s ≡ Some k) × AgreesWith k p)
    → ((s : ℕ) (p : SourceShown) → slice_get seats s ≡ Some p → slice_get word_seat.known s ≡ Some p.closed)
    → IsClosedWhereFound word_seat → word_seat.closed ≡ t.closed → Whole t seats left
whole t v more seats left m word_seat made popped settled mirrors left_is known looks warranted closed =
    let o : ℕ = opening_time t.start in
    let all : taken t ++ left ≡ entries o v.mine = ap (λ l. taken t ++ l) left_is ∙ sym mirrors.pending in
    let nil : v.mine ++ [] ≡ v.mine = append-nil v.mine in
    let items : (k : Known) (s : ℕ) → slice_get v.known s ≡ Some k → items_of k.source v.mine ≡ k.queued = λ k s at. ap (items_of k.source) (sym nil) ∙ (settled.known s k at).1 in
    let none : (s : ℕ) → t.sources ≤ s → items_of s (t.popped ++ more) ≡ [] = λ s past. ap (items_of s) (sym popped ∙ sym nil) ∙ settled.theirs s (subst (λ n. n ≤ s) (sym made) past) in
    let last : (s : ℕ) → FinishesLast (items_of s (t.popped ++ more)) = λ s. subst (λ l. FinishesLast (items_of s l)) (nil ∙ popped) (settled.last s) in record {
      legal = subst (IsLegal t.start) (sym all) (entries_legal o v.mine);
      rows = λ s p at. let k = known s p at in
          ap (rows_of p.source) all ∙ (rows_are o p.source v.mine ∙ (ap (λ n. rows_in (items_of n v.mine)) (sym k.2.0) ∙ (ap rows_in (items k.0 s k.1) ∙ k.2.1)));
      theirs = subst (λ l. All (λ (e : Entry). e.row.source < t.sources) l) (sym all) (theirs_are t.sources o v.mine (λ s past. ap (items_of s) popped ∙ none s past));
      warranted = λ s p at less. sym closed ∙ warranted s p.closed (looks s p at) less;
      finished = λ done s p at. let k = known s p at in
          sym k.2.2 ∙ (ap has_finish (sym (items k.0 s k.1) ∙ (ap (items_of k.0.source) popped ∙ items_of-append k.0.source t.popped more))
          ∙ has_still (items_of k.0.source t.popped) (items_of k.0.source more) (done k.0.source (subst (λ n. k.0.source < n) made (settled.known s k.0 k.1).0)));
      done = λ done. nothing_added (taken t) left (all ∙ ap (entries o) (popped ∙ (ap (λ l. t.popped ++ l) (nothing_more t.sources t.popped more none last done) ∙ append-nil t.popped)));
    }
