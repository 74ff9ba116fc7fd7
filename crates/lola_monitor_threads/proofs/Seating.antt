-- Seated workers before their threads are started, and what is known of them once they came back.
use Rattle.std.proofs.Common.{◌≡◌, ℕ, zero, suc, ◌<◌, Bool, false, List, [], ◌∷◌, Option, None, Some, All, length, reverse, refl, sym, ap, ◌∙◌, subst, arith}
use Rattle.std.proofs.lemmas.List.{length-reverse, reverse-reverse}
use Rattle.std.proofs.lemmas.List.Elements.{All-cons, All-nil}
use Rattle.std.proofs.lemmas.Option.{same_Some, slice_get_within}
use Rattle.std.specs.Prelude.{slice_get}
use Rattle.std.specs.List.{AllZip}
use Rattle.lola_model.specs.declared.plan.Plan.{Plan}
use Rattle.lola_model.specs.declared.journal.Row.{Row}
use Rattle.lola_model.specs.declared.journal.Entry.{Entry}
use Rattle.lola_model.proofs.Growing.{slice_get_some}
use Rattle.lola_rows.specs.Reading.{Shape}
use Rattle.lola_feed.specs.SharedIntakes.{AreNewSeats, AreSeatsOf, IntakeId, IsWhole, SeatShown, TakerShown, new_seat}
use Rattle.lola_feed.specs.Feeding.{Working, beginning, handed_in, to_come, without}
use Rattle.lola_feed.specs.declared.worker.SourceEnd as worker
use Rattle.lola_monitor_run.specs.Feeds.{AreInPlace, AreReady, supply_of}
use Rattle.lola_monitor_threads.specs.Seated.{AreAt, HasOffered, HasStopped, IsNewPair, IsRowIn, IsUntold, Seated, WentOn, seated, all_seated}
use Rattle.lola_monitor_threads.specs.Joining.{HaveFlags}
use Rattle.lola_monitor_threads.proofs.Joined.{AreJoined, IsFrom}
use Rattle.lola_monitor_threads.proofs.Offering.{has_offered, passes_began, passes_none, untold_at_first}
use Rattle.lola_monitor_threads.proofs.Places.{all_from, mapped_alike, reverse_all, zip_at, zip_from}

-- a worker before its first turn, with a seat that was told nothing
newly_seated : (w : Working) (p : SeatShown) → w ≡ beginning w.reader → w.reader.given ≡ 0 → p.rows ≡ [] → p.finished ≡ false → HasOffered w (seated w p)
newly_seated w p new given none unfinished =
    let kept : w.kept ≡ None = ap (λ (x : Working). x.kept) new in
    let ended : w.end ≡ None = ap (λ (x : Working). x.end) new in
    let number : handed_in w ≡ 0 = ap (λ (k : Option Row). without k w.reader.given) kept ∙ given in
    has_offered w w p [] none (omega arith)
    (passes_began (to_come w) (to_come w) [] (passes_none (to_come w)))
    (All-nil (IsRowIn w.reader.shape))
    (subst (λ (e : Option worker.SourceEnd). HasStopped e (supply_of w) (supply_of w) []) (sym ended) (passes_none (to_come w), number, refl))
    (subst (λ (b : Bool). IsUntold w.end b) (sym unfinished) (untold_at_first w.end))
    refl

-- a seated worker is a worker with the seat at its place

pub seated_at : (ws : List Working) (ps : List SeatShown) (s : ℕ) (w : Working) (p : SeatShown) → slice_get ws s ≡ Some w → slice_get ps s ≡ Some p → slice_get (all_seated ws ps) s ≡ Some (seated w p)
seated_at [] ps s w p was is = absurd (cc (was))
seated_at (v ∷ ws) [] s w p was is = absurd (cc (is))
seated_at (v ∷ ws) (q ∷ ps) zero w p was is = cc
seated_at (v ∷ ws) (q ∷ ps) (suc s) w p was is = seated_at ws ps s w p was is

pub seated_long : (ws : List Working) (ps : List SeatShown) → length ps ≡ length ws → length (all_seated ws ps) ≡ length ws
seated_long [] ps many = refl
seated_long (w ∷ ws) [] many = absurd (omega arith)
seated_long (w ∷ ws) (p ∷ ps) many = ap suc (seated_long ws ps (omega arith))

pub seated_all : (P : Seated → Type 0) (ws : List Working) (ps : List SeatShown) → length ps ≡ length ws → ((s : ℕ) (w : Working) (p : SeatShown) → slice_get ws s ≡ Some w → slice_get ps s ≡ Some p → P (seated w p)) → All P (all_seated ws ps)
seated_all P [] ps many each = All-nil P
seated_all P (w ∷ ws) [] many each = All-nil P
seated_all P (w ∷ ws) (p ∷ ps) many each = All-cons P (seated w p) (all_seated ws ps) (each 0 w p refl refl) (seated_all P ws ps (omega arith) (λ s v q was is. each (suc s) v q was is))

module _ (plan : Plan) (start : Option ℕ) (id : IntakeId) (olds : List Working) (seats : List SeatShown) (ready : AreReady plan olds) (fresh : AreNewSeats id (length olds) seats) where
  seat_is : (s : ℕ) (p : SeatShown) → slice_get seats s ≡ Some p → p ≡ new_seat id s
  seat_is s p is = same_Some p (new_seat id s) (sym is ∙ fresh.each s (let l = slice_get_within seats s p is in let m = fresh.many in omega arith))

  -- each worker stands beside the seat of its source
  pub in_pairs : AllZip IsNewPair olds seats
  in_pairs = zip_from IsNewPair olds seats fresh.many
      (λ s w p was is. (ap (λ (x : Shape). x.index) (ready.new s w was).2 ∙ ap (λ (q : SeatShown). q.source) (sym (seat_is s p is)), ap (λ (q : SeatShown). q.finished) (seat_is s p is)))

  module _ (waiting : List Seated) (are : reverse waiting ≡ all_seated olds seats) where
    waiting_is : reverse (all_seated olds seats) ≡ waiting
    waiting_is = ap reverse (sym are) ∙ reverse-reverse waiting

    pub as_many : length waiting ≡ length olds
    as_many = sym (length-reverse waiting) ∙ (ap length are ∙ seated_long olds seats fresh.many)

    pub at_intake : AreAt id waiting
    at_intake = subst (AreAt id) waiting_is (reverse_all (λ (p : Seated). p.seat.intake ≡ id) (all_seated olds seats) (seated_all (λ (p : Seated). p.seat.intake ≡ id) olds seats fresh.many
        (λ s w p was is. ap (λ (q : SeatShown). q.intake) (seat_is s p is))))

    pub have_flags : HaveFlags (length olds) waiting
    have_flags = subst (HaveFlags (length olds)) waiting_is (reverse_all (λ (p : Seated). p.seat.source < length olds) (all_seated olds seats) (seated_all (λ (p : Seated). p.seat.source < length olds) olds seats fresh.many
        (λ s w p was is. subst (λ (k : ℕ). k < length olds) (sym (ap (λ (q : SeatShown). q.source) (seat_is s p is))) (slice_get_within olds s w was))))

  module _ (news : List Working) (backs : List SeatShown) (many : length news ≡ length olds) (sat : length backs ≡ length olds) (went : AllZip WentOn (all_seated olds seats) (all_seated news backs)) where
    -- the seated worker of a source went on
    went_at : (s : ℕ) (old new : Working) (p : SeatShown) → slice_get olds s ≡ Some old → slice_get news s ≡ Some new → slice_get backs s ≡ Some p → WentOn (seated old (new_seat id s)) (seated new p)
    went_at s old new p was is at = zip_at WentOn (all_seated olds seats) (all_seated news backs) s _ _ went
        (seated_at olds seats s old (new_seat id s) was (fresh.each s (slice_get_within olds s old was)))
        (seated_at news backs s new p is at)

    is_from : (s : ℕ) (old new : Working) (p : SeatShown) → slice_get olds s ≡ Some old → slice_get news s ≡ Some new → slice_get backs s ≡ Some p → IsFrom plan s old new p
    is_from s old new p was is at =
        let w = went_at s old new p was is at in
        let r = ready.new s old was in
        record {
          offered = w.offers old (newly_seated old (new_seat id s) r.0 r.1 refl refl);
          source = w.seat.source;
          shape = r.2;
          in_order = w.seat.in_order;
        }

    old_at : (s : ℕ) → s < length olds → (w : Working) × (slice_get olds s ≡ Some w)
    old_at s less = slice_get_some olds s less

    new_at : (s : ℕ) → s < length olds → (w : Working) × (slice_get news s ≡ Some w)
    new_at s less = slice_get_some news s (let m = many in omega arith)

    back_at : (s : ℕ) → s < length olds → (p : SeatShown) × (slice_get backs s ≡ Some p)
    back_at s less = slice_get_some backs s (let m = sat in omega arith)

    pub own_seats : AreSeatsOf id backs
    own_seats = all_from (λ (p : SeatShown). p.intake ≡ id) backs (λ s p is.
        let less : s < length olds = (let l = slice_get_within backs s p is in let m = sat in omega arith) in
        let old = old_at s less in
        let new = new_at s less in
        (went_at s old.0 new.0 p old.1 new.1 is).seat.intake)

    pub in_place : AreInPlace olds news
    in_place = mapped_alike (λ (w : Working). w.reader.source.place) olds news many (λ s old new was is.
        let p = back_at s (slice_get_within olds s old was) in
        (went_at s old new p.0 was is p.1).kept.place)

    pub joined : (taker : TakerShown) (left : List Entry) → taker.sources ≡ length olds → taker.start ≡ start → IsWhole taker backs left → AreJoined plan start olds news backs taker left
    joined taker left sources from whole = record {
      few = ready.many.1;
      many = many;
      sat = sat;
      each = is_from;
      sources_are = sources;
      start_is = from;
      whole = whole;
    }
