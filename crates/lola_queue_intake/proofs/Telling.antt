-- What a source's seat shows after a call.
use Rattle.std.proofs.Common.{◌≡◌, ℕ, ◌+◌, true, List, [], ◌∷◌, ◌++◌, Result, Ok, Err, MatchResult, IfErr, refl, ap, sym, subst, ◌∙◌}
use Rattle.atomic_table.specs.Seated.{TableId}
use Rattle.lola_model.specs.declared.journal.Row.{Row}
use Rattle.lola_queue_intake.specs.declared.item.Item.{Item}
use Rattle.lola_queue_intake.specs.declared.item.Item.TheVariants as item
use Rattle.lola_queue_intake.specs.declared.answer.Push.{Push}
use Rattle.lola_queue_intake.specs.declared.answer.Push.TheVariants as push
use Rattle.lola_feed.specs.declared.intake.Finish.{Finish}
use Rattle.lola_feed.specs.declared.intake.Finish.TheVariants as finish
use Rattle.lola_queue_intake.specs.declared.delivery.View.{View}
use Rattle.lola_queue_intake.specs.Deliveries.{rows_in, has_finish, with_item}
use Rattle.lola_queue_intake.specs.Intakes.{SourceShown, source_shown, after_push, IsBack, IsSameSeat, after_finish}

pub rows_in-row : (xs : List Item) (row : Row) → rows_in (xs ++ item.Row row ∷ []) ≡ rows_in xs ++ row ∷ []
rows_in-row [] row = refl
rows_in-row (item.Row r ∷ xs) row = ap (λ l. r ∷ l) (rows_in-row xs row)
rows_in-row (item.Finish s ∷ xs) row = rows_in-row xs row

pub has_finish-row : (xs : List Item) (row : Row) → has_finish (xs ++ item.Row row ∷ []) ≡ has_finish xs
has_finish-row [] row = refl
has_finish-row (item.Row r ∷ xs) row = has_finish-row xs row
has_finish-row (item.Finish s ∷ xs) row = refl

pub rows_in-finish : (xs : List Item) (s : ℕ) → rows_in (xs ++ item.Finish s ∷ []) ≡ rows_in xs
rows_in-finish [] s = refl
rows_in-finish (item.Row r ∷ xs) s = ap (λ l. r ∷ l) (rows_in-finish xs s)
rows_in-finish (item.Finish q ∷ xs) s = rows_in-finish xs s

pub has_finish-finish : (xs : List Item) (s : ℕ) → has_finish (xs ++ item.Finish s ∷ []) ≡ true
has_finish-finish [] s = refl
has_finish-finish (item.Row r ∷ xs) s = has_finish-finish xs s
has_finish-finish (item.Finish q ∷ xs) s = refl

-- the seat with these, before and after
module _ (q q' w w' : TableId) (source : ℕ) (mine mine' : List Item) (found found' full full' : ℕ) (queue : q' ≡ q) (word : w' ≡ w) where
  abbrev Old : SourceShown
  Old = source_shown q w source mine found full

  abbrev New : SourceShown
  New = source_shown q' w' source mine' found' full'

  changed : (items : List Item) (f n : ℕ) → mine' ≡ items → found' ≡ f → full' ≡ n → New ≡ source_shown q w source items f n
  changed items f n a b c = λ i. source_shown (queue i) (word i) source (a i) (b i) (c i)

  pub row_queued : (row : Row) → mine' ≡ mine ++ item.Row row ∷ [] → found' ≡ found → full' ≡ full → New ≡ after_push Old row push.Queued
  row_queued row a b c = changed (mine ++ item.Row row ∷ []) found full a b c
      ∙ (λ i. record { intake = record { queue = q; word = w }; source = source; queued = rows_in-row mine row i; finished = has_finish-row mine row i; closed = found; full = full })

  pub row_full : (row back : Row) → mine' ≡ mine → found' ≡ found → full' ≡ full + 1 → New ≡ after_push Old row (push.Full back)
  row_full row back a b c = changed mine found (full + 1) a b c

  pub row_closed : (row back : Row) → mine' ≡ mine → found' ≡ found + 1 → full' ≡ full → New ≡ after_push Old row (push.Closed back)
  row_closed row back a b c = changed mine (found + 1) full a b c

  pub finish_queued : mine' ≡ mine ++ item.Finish source ∷ [] → found' ≡ found → full' ≡ full → New ≡ after_finish Old finish.Finished
  finish_queued a b c = changed (mine ++ item.Finish source ∷ []) found full a b c
      ∙ (λ i. record { intake = record { queue = q; word = w }; source = source; queued = rows_in-finish mine source i; finished = has_finish-finish mine source i; closed = found; full = full })

  pub finish_full : mine' ≡ mine → found' ≡ found → full' ≡ full + 1 → New ≡ after_finish Old finish.Full
  finish_full a b c = changed mine found (full + 1) a b c

  -- what the queue and the answer tell of a row
  pub row_told : (row : Row) (r : Result (Unit {0}) Item) (v w : View) (a : Push) → v.mine ≡ mine → w.mine ≡ mine' → found' ≡ found
      → MatchResult r (λ _. (w ≡ with_item v (item.Row row)) × (full' ≡ full)) (λ back. (back ≡ item.Row row) × (w ≡ v) × (full' ≡ full + 1))
      → MatchResult r (λ _. a ≡ push.Queued) (λ back. (q : Row) → back ≡ item.Row q → a ≡ push.Full q) → New ≡ after_push Old row a
  row_told row (Ok u) v w a before after f told is = row_queued row (sym after ∙ (ap (λ (z : View). z.mine) told.0 ∙ ap (λ l. l ++ item.Row row ∷ []) before)) f told.1 ∙ ap (after_push Old row) (sym is)
  row_told row (Err back) v w a before after f told is = row_full row row (sym after ∙ (ap (λ (z : View). z.mine) told.1 ∙ before)) f told.2 ∙ ap (after_push Old row) (sym (is row told.0))

  -- what the queue and the answer tell of a finish
  pub finish_told : (r : Result (Unit {0}) Item) (v w : View) (a : Finish) → v.mine ≡ mine → w.mine ≡ mine' → found' ≡ found
      → MatchResult r (λ _. (w ≡ with_item v (item.Finish source)) × (full' ≡ full)) (λ back. (back ≡ item.Finish source) × (w ≡ v) × (full' ≡ full + 1))
      → MatchResult r (λ _. a ≡ finish.Finished) (λ _. a ≡ finish.Full) → New ≡ after_finish Old a
  finish_told (Ok u) v w a before after f told is = finish_queued (sym after ∙ (ap (λ (z : View). z.mine) told.0 ∙ ap (λ l. l ++ item.Finish source ∷ []) before)) f told.1 ∙ ap (after_finish Old) (sym is)
  finish_told (Err back) v w a before after f told is = finish_full (sym after ∙ (ap (λ (z : View). z.mine) told.1 ∙ before)) f told.2 ∙ ap (after_finish Old) (sym is)

-- a row that was not queued comes back
pub row_back : (row : Row) (r : Result (Unit {0}) Item) (A B C : Type 0) (a : Push) → MatchResult r (λ _. A) (λ back. (back ≡ item.Row row) × B × C)
    → MatchResult r (λ _. a ≡ push.Queued) (λ back. (q : Row) → back ≡ item.Row q → a ≡ push.Full q) → IsBack row a
row_back row (Ok u) A B C a told is = subst (IsBack row) (sym is) tt
row_back row (Err back) A B C a told is = subst (IsBack row) (sym (is row told.0)) refl

-- an item that came back is the row
pub back_is_row : (row : Row) (r : Result (Unit {0}) Item) (A B C : Type 0) → MatchResult r (λ _. A) (λ back. (back ≡ item.Row row) × B × C) → IfErr r (λ back. (q : Row) × (back ≡ item.Row q))
back_is_row row (Ok u) A B C told = tt
back_is_row row (Err back) A B C told = (row, told.0)

-- a push is of the same seat, and finishes nothing
pub push_same_seat : (p : SourceShown) (row : Row) (a : Push) → IsSameSeat p (after_push p row a)
push_same_seat p row push.Queued = (refl, refl, refl)
push_same_seat p row (push.Full back) = (refl, refl, refl)
push_same_seat p row (push.Closed back) = (refl, refl, refl)
