-- What a turn of a source at its desk is to what the calls of its seat come to.
use Rattle.std.proofs.Common.{◌≡◌, ℕ, ◌-◌, ◌≤◌, Bool, List, [], ◌∷◌, ◌++◌, true, false, true≢false, All, Option, Some, None, length, refl, sym, ap, ◌∙◌, subst, inl, inr, arith, append_assoc, length-append}
use Rattle.std.proofs.lemmas.List.{append-nil}
use Rattle.std.proofs.lemmas.List.Elements.{All-append, All-cons, All-nil}
use Rattle.std.specs.Prelude.{option_map}
use Rattle.lola_port.specs.States.{Rose}
use Rattle.lola_model.specs.declared.journal.Row.{Row}
use Rattle.lola_rows.specs.Rows.{SourceEnd, SourceRows, Whole, MalformedAt}
use Rattle.lola_rows.specs.Reading as reader
use Rattle.lola_rows.specs.declared.answer.Ending.{Ending}
use Rattle.lola_rows.specs.declared.answer.Ending.TheVariants as ending
use Rattle.lola_merge.specs.declared.state.Offer.{Offer}
use Rattle.lola_merge.specs.declared.state.Offer.TheVariants as reply
use Rattle.lola_feed.specs.declared.intake.Finish.{Finish}
use Rattle.lola_feed.specs.declared.intake.Finish.TheVariants as finish
use Rattle.lola_feed.specs.SharedIntakes.{FinishesBy, IsSameSeat, OffersBy, SeatShown, SeatedAt, FinishesOwedBy, after_finish, after_offer, is_owed, new_desk}
use Rattle.lola_feed.specs.Feeding.{Begun, IsLetIn, IsNext, Looks, Turns, Working, end_of, handed_in, led_by, to_come, without}
use Rattle.lola_feed.specs.declared.worker.SourceEnd as worker
use Rattle.lola_feed.specs.declared.worker.SourceEnd.TheVariants as end
use Rattle.lola_feed.specs.declared.worker.TurnEnd.{TurnEnd}
use Rattle.lola_feed.specs.declared.worker.TurnEnd.TheVariants as turn
use Rattle.lola_monitor_run.specs.Feeds.{BeganWith, EndedWith, HasEnded, IsAt, Passes, led_by as before, supply_of}
use Rattle.lola_monitor_threads.specs.Seated.{HasOffered, HasStopped, IsNewPair, IsRowIn, IsSeated, IsUntold, WentOn, seated}
use Rattle.lola_monitor_run.proofs.Turns.{both_parts, passes_are, at_is, to_come_is}

-- what a call changes of a seat

abbrev HasSameEnd : SeatShown → SeatShown → Type 0
HasSameEnd p q = q.finished ≡ p.finished

let_in_rows : (p : SeatShown) (row : Row) (r : Offer) → IsLetIn r → (after_offer p row r).rows ≡ p.rows ++ row ∷ []
let_in_rows p row reply.Accepted is = refl
let_in_rows p row (reply.Late t) is = refl
let_in_rows p row (reply.Full q) is = absurd is
let_in_rows p row (reply.Closed q) is = absurd is

offer_end : (p : SeatShown) (row : Row) (r : Offer) → (after_offer p row r).finished ≡ p.finished
offer_end p row reply.Accepted = refl
offer_end p row (reply.Late t) = refl
offer_end p row (reply.Full q) = refl
offer_end p row (reply.Closed q) = refl

offer_same : (p : SeatShown) (row : Row) (r : Offer) → IsSameSeat p (after_offer p row r)
offer_same p row reply.Accepted = record { intake = refl; source = refl; in_order = refl }
offer_same p row (reply.Late t) = record { intake = refl; source = refl; in_order = refl }
offer_same p row (reply.Full q) = record { intake = refl; source = refl; in_order = refl }
offer_same p row (reply.Closed q) = record { intake = refl; source = refl; in_order = refl }

finish_rows : (p : SeatShown) (f : Finish) → (after_finish p f).rows ≡ p.rows
finish_rows p finish.Finished = refl
finish_rows p finish.Full = refl
finish_rows p finish.Closed = refl

finish_same : (p : SeatShown) (f : Finish) → IsSameSeat p (after_finish p f)
finish_same p finish.Finished = record { intake = refl; source = refl; in_order = refl }
finish_same p finish.Full = record { intake = refl; source = refl; in_order = refl }
finish_same p finish.Closed = record { intake = refl; source = refl; in_order = refl }

same_of : (p q r : SeatShown) → q ≡ r → IsSameSeat p r → IsSameSeat p q
same_of p q r is same = subst (IsSameSeat p) (sym is) same

-- a source that has not told its end

untold_none : (e : Option worker.SourceEnd) (told : Bool) → e ≡ None → IsUntold e told → told ≡ false
untold_none e told none untold = subst (λ (e : Option worker.SourceEnd). IsUntold e told) none untold

none_untold : (e : Option worker.SourceEnd) (told : Bool) → e ≡ None → told ≡ false → IsUntold e told
none_untold e told none is = subst (λ (e : Option worker.SourceEnd). IsUntold e told) (sym none) is

closed_untold : (e : Option worker.SourceEnd) (told : Bool) → e ≡ Some end.Closed → told ≡ false → IsUntold e told
closed_untold e told closed is = subst (λ (e : Option worker.SourceEnd). IsUntold e told) (sym closed) is

-- a reader that ended is no closed intake
ending_untold : (how : Ending) (told : Bool) → IsUntold (Some (end_of how)) told
ending_untold ending.End told = tt
ending_untold (ending.Malformed kind row) told = tt
ending_untold ending.ReadFailed told = tt
ending_untold ending.Memory told = tt

pub untold_at_first : (e : Option worker.SourceEnd) → IsUntold e false
untold_at_first None = refl
untold_at_first (Some end.End) = tt
untold_at_first (Some (end.Malformed kind row)) = tt
untold_at_first (Some end.ReadFailed) = tt
untold_at_first (Some end.Closed) = refl
untold_at_first (Some end.Memory) = tt

-- what is to come of a worker

pub passes_none : (rest : Option SourceRows) → Passes rest rest []
passes_none rest all is = (all, is, refl)

led_twice : (xs ys : List Row) (more : SourceRows) → before xs (before ys more) ≡ before (xs ++ ys) more
led_twice xs ys more = ap (λ (rows : List Row). record { rows = rows; end = more.end }) (sym (append_assoc xs ys more.rows))

passes_more : (a b c : Option SourceRows) (xs ys : List Row) → Passes a b xs → Passes b c ys → Passes a c (xs ++ ys)
passes_more a b c xs ys first second all is =
    let f = first all is in
    let g = second f.0 f.1 in
    (g.0, g.1, f.2 ∙ ap (before xs) g.2 ∙ led_twice xs ys g.0)

passes_ends : (a b : Option SourceRows) (xs : List Row) (end : SourceEnd) → Passes a b xs → IsAt end b → EndedWith end a xs
passes_ends a b xs end passes ends all is =
    let f = passes all is in
    f.2 ∙ ap (before xs) (ends f.0 f.1) ∙ ap (λ (rows : List Row). record { rows = rows; end = end }) (append-nil xs)

pub passes_began : (a b : Option SourceRows) (xs : List Row) → Passes a b xs → BeganWith a xs
passes_began a b xs passes all is = let f = passes all is in (f.0.rows, ap (λ (r : SourceRows). r.rows) f.2)

-- a row that waits is the next of those to come still
waits_before : (old : Option SourceRows) (w : Working) (row : Row) → w.kept ≡ Some row → reader.Passes old (reader.rest_of w.reader) (row ∷ []) → (all : SourceRows) → old ≡ Some all → to_come w ≡ Some all
waits_before old w row waits passes all is =
    let f = passes all is in
    ap (λ (k : Option Row). option_map (led_by k) (reader.rest_of w.reader)) waits
    ∙ (ap (option_map (led_by (Some row))) f.left_is
    ∙ ap Some (sym (both_parts all (row ∷ f.rest.rows) f.rest.end f.rows_are f.end_is)))

-- how a worker that goes on stands
going : (from now : Working) (rows : List Row) → now.end ≡ None → HasStopped now.end (supply_of from) (supply_of now) rows → HasEnded None (supply_of from) (supply_of now) rows
going from now rows none stopped = subst (λ (e : Option worker.SourceEnd). HasStopped e (supply_of from) (supply_of now) rows) none stopped

-- what the calls of a seated worker come to, by its rows
pub has_offered : (from new : Working) (p : SeatShown) (rows : List Row) → p.rows ≡ rows → length rows ≤ from.reader.shape.most → BeganWith (to_come from) rows → All (IsRowIn from.reader.shape) rows
    → HasStopped new.end (supply_of from) (supply_of new) rows → IsUntold new.end p.finished → new.reader.shape ≡ from.reader.shape → HasOffered from (seated new p)
has_offered from new p rows is few began fits stopped untold shape = record {
  few = subst (λ (l : List Row). length l ≤ from.reader.shape.most) (sym is) few;
  began = subst (BeganWith (to_come from)) (sym is) began;
  rows = subst (All (IsRowIn from.reader.shape)) (sym is) fits;
  end = subst (HasStopped new.end (supply_of from) (supply_of new)) (sym is) stopped;
  untold = untold;
  shape = shape;
}

module _ (from old new : Working) (p q : SeatShown) (h : HasOffered from (seated old p)) (goes_on : old.end ≡ None) (shape : new.reader.shape ≡ old.reader.shape) where
  was : HasEnded None (supply_of from) (supply_of old) p.rows
  was = going from old p.rows goes_on h.end

  unfinished : p.finished ≡ false
  unfinished = untold_none old.end p.finished goes_on h.untold

  -- the row that a worker read is one of its shape
  fits : (row : Row) → reader.IsRowOf old.reader.shape (handed_in old) row → IsRowIn from.reader.shape row
  fits row is = subst (λ (s : reader.Shape). IsRowIn s row) h.shape (record { source = is.source; stamp = is.stamp; fields = is.fields })

  -- a row was let in
  lets_in : (row : Row) → IsNext row old new.reader → q.rows ≡ p.rows ++ row ∷ [] → HasSameEnd p q → new.kept ≡ None → new.end ≡ None → HasOffered from (seated new q)
  lets_in row next more same none ended =
      let given : handed_in new ≡ new.reader.given = ap (λ (k : Option Row). without k new.reader.given) none in
      let number : handed_in new ≡ length (p.rows ++ row ∷ []) = (let a = length-append p.rows (row ∷ []) in let b = was.1 in let n = next.given in let m = next.is_row.number in omega arith) in
      let most : from.reader.shape.most ≡ old.reader.shape.most = ap (λ (s : reader.Shape). s.most) (sym h.shape) in
      let through : Passes (to_come from) (to_come new) (p.rows ++ row ∷ []) = passes_more (to_come from) (to_come old) (to_come new) p.rows (row ∷ []) was.0
      (passes_are (to_come old) (to_come new) (row ∷ []) (subst (λ rest. reader.Passes (to_come old) rest (row ∷ [])) (sym (to_come_is new none)) next.passes)) in
      has_offered from new q (p.rows ++ row ∷ []) more
      (let n = next.given in let w = next.is_row.within in omega arith)
      (passes_began (to_come from) (to_come new) (p.rows ++ row ∷ []) through)
      (All-append (IsRowIn from.reader.shape) p.rows (row ∷ []) h.rows (All-cons (IsRowIn from.reader.shape) row [] (fits row next.is_row) (All-nil (IsRowIn from.reader.shape))))
      (subst (λ (e : Option worker.SourceEnd). HasStopped e (supply_of from) (supply_of new) (p.rows ++ row ∷ [])) (sym ended) (through, number, next.count ∙ was.2))
      (none_untold new.end q.finished ended (same ∙ unfinished))
      (shape ∙ h.shape)

  -- no row more was let in
  lets_in_none : q.rows ≡ p.rows → HasStopped new.end (supply_of from) (supply_of new) p.rows → IsUntold new.end q.finished → HasOffered from (seated new q)
  lets_in_none same stopped untold = has_offered from new q p.rows same h.few h.began h.rows stopped untold (shape ∙ h.shape)

  -- a row waits, and no row more was let in
  waits : (row : Row) → IsNext row old new.reader → q.rows ≡ p.rows → HasSameEnd p q → new.kept ≡ Some row → new.end ≡ None → HasOffered from (seated new q)
  waits row next same still kept ended =
      let given : handed_in new ≡ new.reader.given - 1 = ap (λ (k : Option Row). without k new.reader.given) kept in
      let number : handed_in new ≡ length p.rows = (let b = was.1 in let n = next.given in let m = next.is_row.number in omega arith) in
      let through : Passes (to_come from) (to_come new) p.rows = λ all is. let f = was.0 all is in (f.0, waits_before (to_come old) new row kept next.passes f.0 f.1, f.2) in
      lets_in_none same
      (subst (λ (e : Option worker.SourceEnd). HasStopped e (supply_of from) (supply_of new) p.rows) (sym ended) (through, number, next.count ∙ was.2))
      (none_untold new.end q.finished ended (still ∙ unfinished))

  -- the heading was read, and no row
  opened : new.reader.given ≡ old.reader.given → reader.rest_of new.reader ≡ reader.rest_of old.reader → new.reader.source.count ≡ old.reader.source.count → q ≡ p → new.kept ≡ old.kept → new.end ≡ None
      → HasOffered from (seated new q)
  opened given rest count same kept ended =
      let number : handed_in new ≡ handed_in old = ap (λ (k : Option Row). without k new.reader.given) kept ∙ ap (without old.kept) given in
      let left : to_come new ≡ to_come old = ap (λ (k : Option Row). option_map (led_by k) (reader.rest_of new.reader)) kept ∙ ap (option_map (led_by old.kept)) rest in
      lets_in_none (ap (λ (s : SeatShown). s.rows) same)
      (subst (λ (e : Option worker.SourceEnd). HasStopped e (supply_of from) (supply_of new) p.rows) (sym ended)
      (subst (λ (to : Option SourceRows). Passes (to_come from) to p.rows) (sym left) was.0, number ∙ was.1, count ∙ was.2))
      (none_untold new.end q.finished ended (ap (λ (s : SeatShown). s.finished) same ∙ unfinished))

  -- a row met a closed intake
  meets_closed : q.rows ≡ p.rows → HasSameEnd p q → new.end ≡ Some end.Closed → HasOffered from (seated new q)
  meets_closed same still ended = lets_in_none same
      (subst (λ (e : Option worker.SourceEnd). HasStopped e (supply_of from) (supply_of new) p.rows) (sym ended) tt)
      (closed_untold new.end q.finished ended (still ∙ unfinished))

  -- the reader had no row
  has_stopped : (how : Ending) → old.kept ≡ None → reader.Stops how old.reader new.reader → HasStopped (Some (end_of how)) (supply_of from) (supply_of new) p.rows
  has_stopped ending.End none stops = (passes_ends _ (to_come old) _ Whole was.0 (subst (IsAt Whole) (sym (to_come_is old none)) (at_is _ Whole stops.0)), stops.1 ∙ was.2)
  has_stopped (ending.Malformed kind row) none stops = (passes_ends _ (to_come old) _ (MalformedAt kind row) was.0 (subst (IsAt (MalformedAt kind row)) (sym (to_come_is old none)) (at_is _ (MalformedAt kind row) stops.0)), stops.2 ∙ was.2)
  has_stopped ending.ReadFailed none stops = subst (λ n. Rose n new.reader.source.count) was.2 stops.rose
  has_stopped ending.Memory none stops = tt

  finishes : (how : Ending) → old.kept ≡ None → reader.Stops how old.reader new.reader → q.rows ≡ p.rows → new.end ≡ Some (end_of how) → HasOffered from (seated new q)
  finishes how none stops same ended = lets_in_none same
      (subst (λ (e : Option worker.SourceEnd). HasStopped e (supply_of from) (supply_of new) p.rows) (sym ended) (has_stopped how none stops))
      (subst (λ (e : Option worker.SourceEnd). IsUntold e q.finished) (sym ended) (ending_untold how q.finished))

-- a worker and a seat that has not finished, before the first call
pub seated_first : (w : Working) (p : SeatShown) → IsNewPair w p → IsSeated w (new_desk p)
seated_first w p pair = record { source = pair.0; untold = untold_at_first w.end }

-- what a call of the desk leaves

module _ (d0 d1 : SeatedAt) (untold : d0.told ≡ false) where
  offered_seat : (row : Row) (r : Offer) → OffersBy row r d0 d1 → d1.seat ≡ after_offer d0.seat row r
  offered_seat row r offers = ap (λ (d : SeatedAt). d.seat) (offers.going untold)

  offered_told : (row : Row) (r : Offer) → OffersBy row r d0 d1 → d1.told ≡ false
  offered_told row r offers = ap (λ (d : SeatedAt). d.told) (offers.going untold) ∙ untold

  offered_same : (row : Row) (r : Offer) → OffersBy row r d0 d1 → IsSameSeat d0.seat d1.seat
  offered_same row r offers = same_of d0.seat d1.seat _ (offered_seat row r offers) (offer_same d0.seat row r)

  offered_end : (row : Row) (r : Offer) → OffersBy row r d0 d1 → d1.seat.finished ≡ d0.seat.finished
  offered_end row r offers = ap (λ (s : SeatShown). s.finished) (offered_seat row r offers) ∙ offer_end d0.seat row r

  finished_seat : (is : FinishesBy d0 d1) → d1.seat ≡ after_finish d0.seat (is.going untold).0
  finished_seat is = ap (λ (d : SeatedAt). d.seat) (is.going untold).1

  finished_same : FinishesBy d0 d1 → IsSameSeat d0.seat d1.seat
  finished_same is = same_of d0.seat d1.seat _ (finished_seat is) (finish_same d0.seat (is.going untold).0)

  finished_rows : FinishesBy d0 d1 → d1.seat.rows ≡ d0.seat.rows
  finished_rows is = ap (λ (s : SeatShown). s.rows) (finished_seat is) ∙ finish_rows d0.seat (is.going untold).0

-- a seat stays the same where it was not called
same_seat : (d0 d1 : SeatedAt) → d1 ≡ d0 → IsSameSeat d0.seat d1.seat
same_seat d0 d1 same = record { intake = ap (λ (d : SeatedAt). d.seat.intake) same; source = ap (λ (d : SeatedAt). d.seat.source) same; in_order = ap (λ (d : SeatedAt). d.seat.in_order) same }

module _ (d0 d1 : SeatedAt) (old new : Working) (at : IsSeated old d0) where
  open_told : old.end ≡ None → d0.told ≡ false
  open_told none = untold_none old.end d0.told none at.untold

  turn_same : (t : TurnEnd) → Turns OffersBy FinishesBy d0 d1 t old new → IsSameSeat d0.seat d1.seat
  turn_same turn.Moved t = offered_same d0 d1 (open_told t.0) t.1.0 t.1.1 t.1.2.offered
  turn_same turn.Full t = offered_same d0 d1 (open_told t.0) t.1.0 (reply.Full t.1.0) t.1.1.offered
  turn_same (turn.Done how) (inl rests) = same_seat d0 d1 rests.desk
  turn_same (turn.Done how) (inr (goes_on, inl shut)) = offered_same d0 d1 (open_told goes_on) shut.1.0 (reply.Closed shut.1.0) shut.1.1.offered
  turn_same (turn.Done how) (inr (goes_on, inr f)) = finished_same d0 d1 (open_told goes_on) f.2.finished

  -- a worker that goes on has told no end
  turn_untold : (t : TurnEnd) → Turns OffersBy FinishesBy d0 d1 t old new → IsUntold new.end d1.told
  turn_untold turn.Moved t = none_untold new.end d1.told t.1.2.end (offered_told d0 d1 (open_told t.0) t.1.0 t.1.1 t.1.2.offered)
  turn_untold turn.Full t = none_untold new.end d1.told t.1.1.end (offered_told d0 d1 (open_told t.0) t.1.0 (reply.Full t.1.0) t.1.1.offered)
  turn_untold (turn.Done how) (inl rests) = subst (λ (w : Working). IsUntold w.end d1.told) (sym rests.same) (subst (λ (d : SeatedAt). IsUntold old.end d.told) (sym rests.desk) at.untold)
  turn_untold (turn.Done how) (inr (goes_on, inl shut)) = closed_untold new.end d1.told shut.1.1.end (offered_told d0 d1 (open_told goes_on) shut.1.0 (reply.Closed shut.1.0) shut.1.1.offered)
  turn_untold (turn.Done how) (inr (goes_on, inr f)) = subst (λ (e : Option worker.SourceEnd). IsUntold e d1.told) (sym f.2.end) (ending_untold f.0 d1.told)

  module _ (from : Working) (h : HasOffered from (seated old d0.seat)) (shape : new.reader.shape ≡ old.reader.shape) where
    offers_next : (t : TurnEnd) → Turns OffersBy FinishesBy d0 d1 t old new → HasOffered from (seated new d1.seat)
    offers_next turn.Moved t =
        let m = t.1.2 in
        let untold = open_told t.0 in
        lets_in from old new d0.seat d1.seat h t.0 shape t.1.0 m.next (ap (λ (s : SeatShown). s.rows) (offered_seat d0 d1 untold t.1.0 t.1.1 m.offered) ∙ let_in_rows d0.seat t.1.0 t.1.1 m.let_in)
        (offered_end d0 d1 untold t.1.0 t.1.1 m.offered) m.kept m.end
    offers_next turn.Full t =
        let w = t.1.1 in
        let untold = open_told t.0 in
        waits from old new d0.seat d1.seat h t.0 shape t.1.0 w.next (ap (λ (s : SeatShown). s.rows) (offered_seat d0 d1 untold t.1.0 (reply.Full t.1.0) w.offered)) (offered_end d0 d1 untold t.1.0 (reply.Full t.1.0) w.offered) w.kept w.end
    offers_next (turn.Done how) (inl rests) = subst (λ (w : Working). HasOffered from (seated w d1.seat)) (sym rests.same) (subst (λ (d : SeatedAt). HasOffered from (seated old d.seat)) (sym rests.desk) h)
    offers_next (turn.Done how) (inr (goes_on, inl shut)) =
        let row = shut.1.0 in
        let s = shut.1.1 in
        let untold = open_told goes_on in
        meets_closed from old new d0.seat d1.seat h goes_on shape (ap (λ (s : SeatShown). s.rows) (offered_seat d0 d1 untold row (reply.Closed row) s.offered)) (offered_end d0 d1 untold row (reply.Closed row) s.offered) s.end
    offers_next (turn.Done how) (inr (goes_on, inr f)) = finishes from old new d0.seat d1.seat h goes_on shape f.0 f.2.none f.2.stops (finished_rows d0 d1 (open_told goes_on) f.2.finished) f.2.end

-- a worker that went on has its seat still
still_seated : (d0 d1 : SeatedAt) (old new : Working) → IsSeated old d0 → IsSameSeat d0.seat d1.seat → reader.Keeps old.reader new.reader → IsUntold new.end d1.told → IsSeated new d1
still_seated d0 d1 old new at same kept untold = record { source = ap (λ (s : reader.Shape). s.index) kept.shape ∙ (at.source ∙ sym same.source); untold = untold }

-- a seated worker goes on by a turn
pub turn_goes_on : (t : TurnEnd) (d0 d1 : SeatedAt) (old new : Working) → IsSeated old d0 → Turns OffersBy FinishesBy d0 d1 t old new → reader.Keeps old.reader new.reader → WentOn (seated old d0.seat) (seated new d1.seat)
turn_goes_on t d0 d1 old new at turns kept = record {
  seat = turn_same d0 d1 old new at t turns;
  kept = kept;
  offers = λ from h. offers_next d0 d1 old new at from h kept.shape t turns;
}

pub turn_stays : (t : TurnEnd) (d0 d1 : SeatedAt) (old new : Working) → IsSeated old d0 → Turns OffersBy FinishesBy d0 d1 t old new → reader.Keeps old.reader new.reader → IsSeated new d1
turn_stays t d0 d1 old new at turns kept = still_seated d0 d1 old new at (turn_same d0 d1 old new at t turns) kept (turn_untold d0 d1 old new at t turns)

-- a look that found no row is a turn of a worker that had ended, or ends
no_row : (d0 d1 : SeatedAt) (old new : Working) → Looks OffersBy FinishesBy d0 d1 None old new → (how : worker.SourceEnd) × Turns OffersBy FinishesBy d0 d1 (turn.Done how) old new
no_row d0 d1 old new (inl rested) = (rested.0, inl rested.1)
no_row d0 d1 old new (inr told) = (end_of told.1.0, inr (told.0, inr (told.1.0, refl, told.1.1)))

-- a seated worker goes on by a look
pub look_goes_on : (stamp : Option ℕ) (d0 d1 : SeatedAt) (old new : Working) → IsSeated old d0 → Looks OffersBy FinishesBy d0 d1 stamp old new → reader.Keeps old.reader new.reader → WentOn (seated old d0.seat) (seated new d1.seat)
look_goes_on None d0 d1 old new at looks kept = let t = no_row d0 d1 old new looks in turn_goes_on (turn.Done t.0) d0 d1 old new at t.1 kept
look_goes_on (Some stamp) d0 d1 old new at looks kept =
    let held = looks.1.2 in
    record {
      seat = same_seat d0 d1 held.desk;
      kept = kept;
      offers = λ from h. waits from old new d0.seat d1.seat h looks.0 kept.shape looks.1.0 held.next (ap (λ (d : SeatedAt). d.seat.rows) held.desk) (ap (λ (d : SeatedAt). d.seat.finished) held.desk) held.kept held.end;
    }

pub look_stays : (stamp : Option ℕ) (d0 d1 : SeatedAt) (old new : Working) → IsSeated old d0 → Looks OffersBy FinishesBy d0 d1 stamp old new → reader.Keeps old.reader new.reader → IsSeated new d1
look_stays None d0 d1 old new at looks kept = let t = no_row d0 d1 old new looks in turn_stays (turn.Done t.0) d0 d1 old new at t.1 kept
look_stays (Some stamp) d0 d1 old new at looks kept =
    let held = looks.1.2 in
    still_seated d0 d1 old new at (same_seat d0 d1 held.desk) kept (none_untold new.end d1.told held.end (ap (λ (d : SeatedAt). d.told) held.desk ∙ open_told d0 d1 old new at looks.0))

-- and by a heading
pub begin_goes_on : (on : Bool) (d0 d1 : SeatedAt) (old new : Working) → IsSeated old d0 → Begun OffersBy FinishesBy d0 d1 on old new → reader.Keeps old.reader new.reader → WentOn (seated old d0.seat) (seated new d1.seat)
begin_goes_on false d0 d1 old new at begun kept = look_goes_on None d0 d1 old new at begun kept
begin_goes_on true d0 d1 old new at begun kept = record {
  seat = same_seat d0 d1 begun.desk;
  kept = kept;
  offers = λ from h. opened from old new d0.seat d1.seat h begun.going kept.shape begun.goes.given begun.goes.rest begun.goes.count (ap (λ (d : SeatedAt). d.seat) begun.desk) begun.kept begun.end;
}

pub begin_stays : (on : Bool) (d0 d1 : SeatedAt) (old new : Working) → IsSeated old d0 → Begun OffersBy FinishesBy d0 d1 on old new → reader.Keeps old.reader new.reader → IsSeated new d1
begin_stays false d0 d1 old new at begun kept = look_stays None d0 d1 old new at begun kept
begin_stays true d0 d1 old new at begun kept = still_seated d0 d1 old new at (same_seat d0 d1 begun.desk) kept (none_untold new.end d1.told begun.end (ap (λ (d : SeatedAt). d.told) begun.desk ∙ open_told d0 d1 old new at begun.going))

-- and where the intake is told that its source has ended

told_free : (e : Option worker.SourceEnd) (a b : Bool) → a ≡ true → IsUntold e a → IsUntold e b
told_free None a b told untold = absurd (true≢false (sym told ∙ untold))
told_free (Some end.End) a b told untold = tt
told_free (Some (end.Malformed kind row)) a b told untold = tt
told_free (Some end.ReadFailed) a b told untold = tt
told_free (Some end.Closed) a b told untold = absurd (true≢false (sym told ∙ untold))
told_free (Some end.Memory) a b told untold = tt

abbrev GoesOnSo : Working → SeatedAt → SeatedAt → Type 0
GoesOnSo w d0 d1 = WentOn (seated w d0.seat) (seated w d1.seat) × IsSeated w d1

module _ (w : Working) (d0 d1 : SeatedAt) (at : IsSeated w d0) where
  settled_none : d1 ≡ d0 → GoesOnSo w d0 d1
  settled_none same = (
    record { seat = same_seat d0 d1 same; kept = record { shape = refl; place = refl }; offers = λ from h. subst (λ (d : SeatedAt). HasOffered from (seated w d.seat)) (sym same) h },
    subst (IsSeated w) (sym same) at,
  )

  settled_some : (f : Finish) → d0.told ≡ true → d1 ≡ record d0 { seat = after_finish d0.seat f; owes = is_owed f } → GoesOnSo w d0 d1
  settled_some f told is =
      let seat : d1.seat ≡ after_finish d0.seat f = ap (λ (d : SeatedAt). d.seat) is in
      let same = same_of d0.seat d1.seat (after_finish d0.seat f) seat (finish_same d0.seat f) in (
        record {
          seat = same;
          kept = record { shape = refl; place = refl };
          offers = λ from h. has_offered from w d1.seat d0.seat.rows (ap (λ (s : SeatShown). s.rows) seat ∙ finish_rows d0.seat f) h.few h.began h.rows h.end (told_free w.end d0.told d1.seat.finished told at.untold) h.shape;
        },
        record { source = at.source ∙ sym same.source; untold = subst (IsUntold w.end) (sym (ap (λ (d : SeatedAt). d.told) is)) at.untold },
      )

  settled : (done : Bool) → FinishesOwedBy done d0 d1 → (owes : Bool) → d0.owes ≡ owes → GoesOnSo w d0 d1
  settled done by true is = let s = by.owed is in settled_some s.1.0 s.0 s.1.1
  settled done by false is = settled_none (by.none is)

  pub finish_owed_goes_on : (done : Bool) → FinishesOwedBy done d0 d1 → WentOn (seated w d0.seat) (seated w d1.seat)
  finish_owed_goes_on done by = (settled done by d0.owes refl).0

  pub finish_owed_stays : (done : Bool) → FinishesOwedBy done d0 d1 → IsSeated w d1
  finish_owed_stays done by = (settled done by d0.owes refl).1
