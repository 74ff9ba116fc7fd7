-- The queue's seats show what seats of an intake that threads share have to show.
use Rattle.std.proofs.Common.{◌≡◌, ℕ, zero, suc, ◌+◌, ◌<◌, ◌≤◌, Bool, true, false, true≢false, ◌&&◌, nat_lt, List, [], ◌∷◌, ◌++◌, length, map, Option, Some, slice_get, refl, sym, ap, ◌∙◌, subst, arith}
use mathlib.Core.Logic.{dite}
use native.Mathlib.Decide.{ℕ_discrete}
use Rattle.std.proofs.lemmas.Bool.{and_parts}
use Rattle.lola_model.specs.Journal.{rows_of}
use Rattle.lola_model.specs.declared.journal.Row.{Row}
use Rattle.lola_model.specs.declared.journal.Entry.{Entry}
use Rattle.lola_merge.specs.Merging.{TakeIsDue}
use Rattle.lola_merge.specs.declared.state.Take.{Take}
use Rattle.lola_merge.specs.declared.state.Take.TheVariants.{Rows, AllDone, Nothing}
use Rattle.lola_feed.specs.Feeding as feeding
use Rattle.lola_feed.specs.SharedIntakes as sharing
use Rattle.lola_queue_intake.specs.declared.answer.Push.{Push}
use Rattle.lola_queue_intake.specs.declared.answer.Push.TheVariants as push
use Rattle.lola_feed.specs.declared.intake.Finish.{Finish}
use Rattle.lola_feed.specs.declared.intake.Finish.TheVariants as finish
use Rattle.lola_queue_intake.specs.declared.item.Item.{Item}
use Rattle.lola_queue_intake.specs.Deliveries.{items_of, has_finish}
use Rattle.lola_queue_intake.specs.Intakes.{IntakeId, SourceShown, TakerShown, AreSeatsOf, after_push, after_finish, IsBack, has_popped_finish, Took, Whole, new_source, new_taker, taken}
use Rattle.lola_queue_intake.specs.Sharing.{tables_of, have_finished, shared_seat, shared_taker, offer_of}

-- an intake is known by its tables
pub same_intake : (a b : IntakeId) → tables_of a ≡ tables_of b → a ≡ b
same_intake a b e = let queue : a.queue ≡ b.queue = cc in let word : a.word ≡ b.word = cc in λ i. record { queue = queue i; word = word i }

-- one more is more than none
some_more : (n : ℕ) → nat_lt 0 (n + 1) ≡ true
some_more n = grind arith

pub offered : (p : SourceShown) (row : Row) (a : Push) → shared_seat (after_push p row a) ≡ sharing.after_offer (shared_seat p) row (offer_of a)
offered p row push.Queued = refl
offered p row (push.Full back) = refl
offered p row (push.Closed back) = ap (λ (b : Bool). record (shared_seat p) { met_closed = b }) (some_more p.closed)

pub comes_back : (row : Row) (a : Push) → IsBack row a → feeding.IsBack row (offer_of a)
comes_back row push.Queued back = tt
comes_back row (push.Full r) back = back
comes_back row (push.Closed r) back = back

pub finished : (p : SourceShown) (a : Finish) → shared_seat (after_finish p a) ≡ sharing.after_finish (shared_seat p) a
finished p finish.Finished = refl
finished p finish.Full = refl
finished p finish.Closed = ap (λ (b : Bool). record (shared_seat p) { met_closed = b }) (some_more p.closed)

-- whether all have finished, by each
pub each_has : (n : ℕ) (items : List Item) → have_finished n items ≡ true → (s : ℕ) → s < n → has_finish (items_of s items) ≡ true
each_has zero items all s less = absurd (omega arith)
each_has (suc n) items all s less =
    let parts = and_parts (has_finish (items_of n items)) (have_finished n items) all in
    dite (ℕ_discrete s n) (λ is. ap (λ k. has_finish (items_of k items)) is ∙ parts.0) (λ other. each_has n items parts.1 s (omega arith))

pub all_have : (n : ℕ) (items : List Item) → ((s : ℕ) → s < n → has_finish (items_of s items) ≡ true) → have_finished n items ≡ true
all_have zero items each = refl
all_have (suc n) items each = ap (λ (b : Bool). b && have_finished n items) (each n (omega arith)) ∙ all_have n items (λ s less. each s (omega arith))

pub not_all : (n s : ℕ) (items : List Item) → s < n → has_finish (items_of s items) ≡ false → have_finished n items ≡ false
not_all n s items less none = by_all (have_finished n items) refl
  where
    by_all : (b : Bool) → have_finished n items ≡ b → b ≡ false
    by_all true e = absurd (true≢false (sym (each_has n items e s less) ∙ none))
    by_all false e = refl

none_of : {A : Type 0} (xs : List A) → length xs ≡ 0 → xs ≡ []
none_of [] e = refl
none_of (x ∷ xs) e = absurd (omega arith)

pub takes : (t : Take) (moved : List Entry) (old new : TakerShown) → Took t moved old new → sharing.Takes t moved (shared_taker old) (shared_taker new)
takes t moved old new took = record {
  intake = ap tables_of took.intake;
  sources = took.sources;
  start = took.start;
  closed = took.closed;
  taken = took.took;
  marked = took.marked;
  answer = subst (λ n. sharing.IsAnswered t moved (have_finished n new.popped)) (sym took.sources) (answered t took.answer);
}
  where
    answered : (t : Take) → TakeIsDue (length moved) old.sources (has_popped_finish new) t → sharing.IsAnswered t moved (have_finished old.sources new.popped)
    answered (Rows n) due = due
    answered AllDone due = (none_of moved due.0, all_have old.sources new.popped due.1)
    answered Nothing due = (none_of moved due.0, not_all old.sources due.1.0 new.popped due.1.1 due.1.2)

pub closes : (old new : TakerShown) → new ≡ record old { closed = true } → shared_taker new ≡ record (shared_taker old) { closed = true }
closes old new e = ap shared_taker e

-- the seat at a place among those that are shown
seat_at : (seats : List SourceShown) (s : ℕ) (p : sharing.SeatShown) → slice_get (map shared_seat seats) s ≡ Some p → (q : SourceShown) × (slice_get seats s ≡ Some q) × (shared_seat q ≡ p)
seat_at [] s p at = absurd (cc)
seat_at (x ∷ seats) zero p at = let is : shared_seat x ≡ p = cc in (x, refl, is)
seat_at (x ∷ seats) (suc s) p at = seat_at seats s p at

-- what holds of each seat holds of what it shows
of_each : (seats : List SourceShown) (P : sharing.SeatShown → Type 0) → ((s : ℕ) (q : SourceShown) → slice_get seats s ≡ Some q → P (shared_seat q)) → (s : ℕ) (p : sharing.SeatShown) → slice_get (map shared_seat seats) s ≡ Some p → P p
of_each seats P each s p at = let q = seat_at seats s p at in subst P q.2 (each s q.0 q.1)

some_found : (n : ℕ) → nat_lt 0 n ≡ true → 0 < n
some_found n e = grind (arith, e)

pub is_whole : (taker : TakerShown) (seats : List SourceShown) (left : List Entry) → Whole taker seats left → sharing.IsWhole (shared_taker taker) (map shared_seat seats) left
is_whole taker seats left whole = record {
  marked = whole.legal;
  rows = of_each seats (λ (p : sharing.SeatShown). rows_of p.source (taken taker ++ left) ≡ p.rows) whole.rows;
  theirs = whole.theirs;
  warranted = of_each seats (λ (p : sharing.SeatShown). p.met_closed ≡ true → taker.closed ≡ true) (λ s q at met. whole.warranted s q at (some_found q.closed met));
  finished = λ done. of_each seats (λ (p : sharing.SeatShown). p.finished ≡ true) (whole.finished (each_has taker.sources taker.popped done));
  done = λ done _. whole.done (each_has taker.sources taker.popped done);
}

pub are_seats : (id : IntakeId) (seats : List SourceShown) → sharing.AreSeatsOf (tables_of id) (map shared_seat seats) → AreSeatsOf id seats
are_seats id [] all = tt
are_seats id (p ∷ seats) all = (same_intake p.intake id (all 0 (shared_seat p) (omega arith)), are_seats id seats (λ i d less. all (suc i) d (omega arith)))

pub new_seats : (id : IntakeId) (count : ℕ) (seats : List SourceShown) → length seats ≡ count → ((s : ℕ) → s < count → slice_get seats s ≡ Some (new_source id s)) → sharing.AreNewSeats (tables_of id) count (map shared_seat seats)
new_seats id count seats many each = record {
  many = length_map seats ∙ many;
  each = λ s less. shown_at seats s (new_source id s) (each s less);
}
  where
    length_map : (xs : List SourceShown) → length (map shared_seat xs) ≡ length xs
    length_map [] = refl
    length_map (x ∷ xs) = ap suc (length_map xs)

    shown_at : (xs : List SourceShown) (s : ℕ) (q : SourceShown) → slice_get xs s ≡ Some q → slice_get (map shared_seat xs) s ≡ Some (shared_seat q)
    shown_at [] s q at = absurd (cc)
    shown_at (x ∷ xs) zero q at = let is : x ≡ q = cc in ap (λ (z : SourceShown). Some (shared_seat z)) is
    shown_at (x ∷ xs) (suc s) q at = shown_at xs s q at

-- at first no finish was popped
pub none_finished : (n : ℕ) → 1 ≤ n → have_finished n [] ≡ false
none_finished n some = not_all n 0 [] (omega arith) refl

pub first_taker : (id : IntakeId) (sources : ℕ) (start : Option ℕ) (t : TakerShown) → 1 ≤ sources → t ≡ new_taker id sources start → shared_taker t ≡ sharing.new_taker (tables_of id) sources start
first_taker id sources start t some e = ap shared_taker e ∙ ap (λ (b : Bool). record (sharing.new_taker (tables_of id) sources start) { done = b }) (none_finished sources some)
