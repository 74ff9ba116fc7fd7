-- What is known at the end of the merge object under its lock, as of an intake that threads share.
use Rattle.std.proofs.Common.{◌≡◌, ℕ, zero, suc, ◌+◌, ◌<◌, Bool, true, false, true≢false, cond, List, [], ◌∷◌, ◌++◌, Some, map, length, refl, sym, ap, ◌∙◌, subst, eqb, eq-eqb}
use Rattle.std.proofs.lemmas.List.{length-map}
use Rattle.std.proofs.lemmas.List.Elements.{All-head, All-tail}
use Rattle.std.proofs.lemmas.Option.{slice_get-map}
use Rattle.std.specs.Prelude.{option_map, slice_get, unwrap_or, Option, None}
use Rattle.atomic_table.specs.Seated.{TableId}
use Rattle.lola_intake.specs.declared.view.Turn.{Turn}
use Rattle.lola_intake.specs.Turns.{Runs, calls_by}
use Rattle.lola_model.specs.Journal.{rows_of}
use Rattle.lola_model.specs.declared.journal.Row.{Row}
use Rattle.lola_model.specs.declared.journal.Entry.{Entry}
use Rattle.lola_merge.specs.declared.state.Offer.{Offer}
use Rattle.lola_merge.specs.declared.state.Offer.TheVariants as reply
use Rattle.lola_merge.specs.declared.state.Take.TheVariants.{Rows, AllDone, Nothing}
use Rattle.lola_merge.specs.Merging.{Merging}
use Rattle.lola_merge.proofs.Answering.{OfferFits, offer_is_due}
use Rattle.lola_intake.specs.declared.event.Event.{Event}
use Rattle.lola_intake.specs.declared.event.Event.TheVariants.{Offered, Finished, Took, Closed}
use Rattle.lola_intake.specs.Histories.{Changes, Does, EndsDone, FinishesLast, entries_of, has_close, has_finish, taken}
use Rattle.lola_intake.specs.Intakes.{AreSeatsOf, Shown, Whole, new_seat, setting}
use Rattle.lola_intake.proofs.Laws.{offer_way}
use Rattle.lola_feed.specs.SharedIntakes as shared
use Rattle.lola_feed.specs.SharedIntakes.{IntakeId, IsWhole, SeatShown}
use Rattle.lola_feed.specs.LockSeats.{are_in_order, are_none, ends_done, has_any_finish, has_met_closed, is_closed, seat_shown, taker_shown}

some_not : {A : Type 0} {x : A} → Some x ≡ None → ⊥
some_not e = absurd (cc e)

-- what stands at a place of a list that was mapped
from_mapped : (seats : List Shown) (s : ℕ) (p : SeatShown) → slice_get (map seat_shown seats) s ≡ Some p → (q : Shown) × ((slice_get seats s ≡ Some q) × (seat_shown q ≡ p))
from_mapped [] s p is = absurd (some_not (sym is))
from_mapped (q ∷ seats) zero p is = (q, (refl, ap (λ o. unwrap_or o (seat_shown q)) is))
from_mapped (q ∷ seats) (suc s) p is = from_mapped seats s p is

-- new seats

pub new_seats : (id : TableId) (sources : ℕ) (start : Option ℕ) (seats : List Shown) → length seats ≡ sources → ((s : ℕ) → s < sources → slice_get seats s ≡ Some (new_seat id (setting sources start) (s + 1) s))
    → shared.AreNewSeats (id ∷ []) sources (map seat_shown seats)
new_seats id sources start seats many each = record {
  many = length-map seats seat_shown ∙ many;
  each = λ s less. slice_get-map seat_shown seats s ∙ ap (option_map seat_shown) (each s less);
}

-- seats of one intake

pub own_seats : (id : TableId) (seats : List Shown) → shared.AreSeatsOf (id ∷ []) (map seat_shown seats) → AreSeatsOf id seats
own_seats id [] own = tt
own_seats id (p ∷ seats) own = (one (All-head (λ (q : SeatShown). q.intake ≡ id ∷ []) (seat_shown p) (map seat_shown seats) own), own_seats id seats (All-tail (λ (q : SeatShown). q.intake ≡ id ∷ []) (seat_shown p) (map seat_shown seats) own))
  where
    one : p.intake ∷ [] ≡ id ∷ [] → p.intake ≡ id
    one e = cc e

-- the rows of a source are those of its entries
rows_of_entries : (s : ℕ) (es : List Entry) → rows_of s es ≡ map (λ (e : Entry). e.row) (entries_of s es)
rows_of_entries s [] = refl
rows_of_entries s (e ∷ es) = elim (eqb e.row.source s) as (λ b. cond b (e.row ∷ rows_of s es) (rows_of s es) ≡ map (λ (e : Entry). e.row) (cond b (e ∷ entries_of s es) (entries_of s es))) [
  | true ↦ ap (λ (l : List Row). e.row ∷ l) (rows_of_entries s es)
  | false ↦ rows_of_entries s es
]

-- a finish of a source is one
any_finish : (es : List Event) (s : ℕ) → has_finish es s ≡ true → has_any_finish es ≡ true
any_finish [] s is = is
any_finish (Offered row r ∷ es) s is = any_finish es s is
any_finish (Finished q ∷ es) s is = refl
any_finish (Took t rows ∷ es) s is = any_finish es s is
any_finish (Closed ∷ es) s is = any_finish es s is

none_are : (es : List Event) → are_none es ≡ true → es ≡ []
none_are [] is = refl
none_are (e ∷ es) is = absurd (true≢false (sym is))

-- where no call stands behind a finish, it is the last
last_finish : (es : List Event) → has_any_finish es ≡ true → are_in_order es ≡ true → FinishesLast es
last_finish [] is order = absurd (true≢false (sym is))
last_finish (Offered row r ∷ es) is order = last_finish es is order
last_finish (Finished s ∷ es) is order = none_are es order
last_finish (Took t rows ∷ es) is order = last_finish es is order
last_finish (Closed ∷ es) is order = last_finish es is order

ended_so : (es : List Event) (b : Bool) → ends_done es b ≡ true → EndsDone es b
ended_so [] b is = is
ended_so (Offered row r ∷ es) b is = ended_so es b is
ended_so (Finished s ∷ es) b is = ended_so es b is
ended_so (Took AllDone rows ∷ es) b is = ended_so es true is
ended_so (Took (Rows n) rows ∷ es) b is = ended_so es false is
ended_so (Took Nothing rows ∷ es) b is = ended_so es false is
ended_so (Closed ∷ es) b is = ended_so es b is

-- Where an answer was that the intake is closed, the engine had closed: closed says that it was so before these calls.

true_either : (b : Bool) → cond b true true ≡ true
true_either true = refl
true_either false = refl

was_closed : (b : Bool) (es : List Event) → b ≡ true → cond b true (has_close es) ≡ true
was_closed b es is = ap (λ c. cond c true (has_close es)) is

-- an offer, of a caller or another
by_offer : (closed mine engine : Bool) (row : Row) (r : Offer) (cs es : List Event) → (has_met_closed cs ≡ true → cond closed true (has_close es) ≡ true) → (is_closed r false ≡ true → closed ≡ true)
    → has_met_closed (cond mine (Offered row r ∷ cs) cs) ≡ true → cond closed true (has_close (cond engine (Offered row r ∷ es) es)) ≡ true
by_offer closed true true row r cs es i cause met = closed_or closed r cs es i cause met
  where
    closed_or : (closed : Bool) (r : Offer) (cs es : List Event) → (has_met_closed cs ≡ true → cond closed true (has_close es) ≡ true) → (is_closed r false ≡ true → closed ≡ true) → is_closed r (has_met_closed cs) ≡ true → cond closed true (has_close es) ≡ true
    closed_or closed reply.Accepted cs es i cause met = i met
    closed_or closed (reply.Late m) cs es i cause met = i met
    closed_or closed (reply.Full q) cs es i cause met = i met
    closed_or closed (reply.Closed q) cs es i cause met = was_closed closed es (cause refl)
by_offer closed true false row reply.Accepted cs es i cause met = i met
by_offer closed true false row (reply.Late m) cs es i cause met = i met
by_offer closed true false row (reply.Full q) cs es i cause met = i met
by_offer closed true false row (reply.Closed q) cs es i cause met = was_closed closed es (cause refl)
by_offer closed false true row r cs es i cause met = i met
by_offer closed false false row r cs es i cause met = i met

offer_cause : (by : ℕ) (row : Row) (r : Offer) (m z : Merging) → Does by (Offered row r) m z → is_closed r false ≡ true → m.closed ≡ true
offer_cause by row r m z d is = told r (subst (OfferFits m row) (sym d.1) (offer_is_due m row)) is
  where
    told : (r : Offer) → OfferFits m row r → is_closed r false ≡ true → m.closed ≡ true
    told reply.Accepted fits is = absurd (true≢false (sym is))
    told (reply.Late t) fits is = absurd (true≢false (sym is))
    told (reply.Full q) fits is = absurd (true≢false (sym is))
    told (reply.Closed q) fits is = fits.1

-- a call that is neither an offer nor a close
by_other : (closed mine engine : Bool) (e : Event) (cs es : List Event) → has_met_closed (e ∷ cs) ≡ has_met_closed cs → has_close (e ∷ es) ≡ has_close es → (has_met_closed cs ≡ true → cond closed true (has_close es) ≡ true)
    → has_met_closed (cond mine (e ∷ cs) cs) ≡ true → cond closed true (has_close (cond engine (e ∷ es) es)) ≡ true
by_other closed true true e cs es same none i met = ap (cond closed true) none ∙ i (sym same ∙ met)
by_other closed true false e cs es same none i met = i (sym same ∙ met)
by_other closed false true e cs es same none i met = ap (cond closed true) none ∙ i met
by_other closed false false e cs es same none i met = i met

step_warrant : (c by : ℕ) (e : Event) (m z : Merging) (cs es : List Event) → Does by e m z → (has_met_closed cs ≡ true → cond z.closed true (has_close es) ≡ true)
    → has_met_closed (cond (eqb by c) (e ∷ cs) cs) ≡ true → cond m.closed true (has_close (cond (eqb by 0) (e ∷ es) es)) ≡ true
step_warrant c by (Offered row r) m z cs es d i met = by_offer m.closed (eqb by c) (eqb by 0) row r cs es (λ more. ap (λ b. cond b true (has_close es)) (sym (offer_way by row r m z d).closed) ∙ i more) (offer_cause by row r m z d) met
step_warrant c by (Finished s) m z cs es d i met = by_other m.closed (eqb by c) (eqb by 0) (Finished s) cs es refl refl (λ more. ap (λ (k : Merging). cond k.closed true (has_close es)) (sym d.1) ∙ i more) met
step_warrant c by (Took t rows) m z cs es d i met = by_other m.closed (eqb by c) (eqb by 0) (Took t rows) cs es refl refl (λ more. ap (λ (k : Merging). cond k.closed true (has_close es)) (sym d.3) ∙ i more) met
step_warrant c by Closed m z cs es d i met = ap (λ b. cond m.closed true (has_close (cond b (Closed ∷ es) es))) (eq-eqb by 0 d.0) ∙ true_either m.closed

warrant : (c : ℕ) (h : List (Turn Event)) (m n : Merging) → Runs Changes m h n → has_met_closed (calls_by c h) ≡ true → cond m.closed true (has_close (calls_by 0 h)) ≡ true
warrant c [] m n r met = absurd (true≢false (sym met))
warrant c (e ∷ h) m n (z, does, r) met = step_warrant c e.by e.event m z (calls_by c h) (calls_by 0 h) does (warrant c h z n r) met

pub whole : (engine : Shown) (seats : List Shown) (left : List Entry) → Whole engine seats left → IsWhole (taker_shown engine) (map seat_shown seats) left
whole engine seats left w = record {
  marked = w.marked;
  rows = λ s p is. let q = from_mapped seats s p is in
      subst (λ (p : SeatShown). rows_of p.source (taken engine.mine ++ left) ≡ p.rows) q.1.1 (rows_of_entries q.0.source (taken engine.mine ++ left) ∙ ap (map (λ (e : Entry). e.row)) (w.sources s q.0 q.1.0));
  theirs = w.theirs;
  warranted = λ s p is met. let q = from_mapped seats s p is in closed s q.0 q.1.0 (subst (λ (p : SeatShown). p.met_closed ≡ true) (sym q.1.1) met);
  finished = λ done s p is. let q = from_mapped seats s p is in
      subst (λ (p : SeatShown). p.finished ≡ true) q.1.1 (any_finish q.0.mine q.0.source (w.finished (ended_so engine.mine false done) s q.0 q.1.0));
  done = λ done order. w.done (ended_so engine.mine false done) (λ s p is.
      last_finish p.mine (any_finish p.mine p.source (w.finished (ended_so engine.mine false done) s p is)) (order s (seat_shown p) (slice_get-map seat_shown seats s ∙ ap (option_map seat_shown) is)));
}
  where
    closed : (s : ℕ) (p : Shown) → slice_get seats s ≡ Some p → has_met_closed p.mine ≡ true → has_close engine.mine ≡ true
    closed s p is met =
        subst (λ (l : List Event). has_close l ≡ true) w.engine_own (subst (λ (k : Merging). cond k.closed true (has_close (calls_by 0 w.history)) ≡ true) w.legal.1.1 (warrant p.caller w.history w.legal.1.0 w.legal.0 w.legal.1.2 (subst (λ (l : List Event). has_met_closed l ≡ true) (sym (w.seats_own s p is)) met)))
