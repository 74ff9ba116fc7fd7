-- A run whose sources are read on threads: from what it was given and what came back, to how its rows came.
use Rattle.std.proofs.Common.{◌≡◌, ℕ, ◌<◌, true, List, [], Result, Ok, Err, length, reverse, map, refl, sym, ap, ◌∙◌, subst, arith}
use Rattle.std.proofs.lemmas.List.{append-nil}
use Rattle.std.proofs.lemmas.List.Elements.{All-nil}
use Rattle.std.specs.Prelude.{OnOk}
use Rattle.std.specs.List.{AllZip}
use Rattle.lola_port.specs.States.{SinkState, grown}
use Rattle.lola_model.specs.Journal.{opening_time}
use Rattle.lola_model.specs.declared.journal.Entry.{Entry}
use Rattle.lola_feed.specs.SharedIntakes.{AreNewSeats, AreSeatsOf, IntakeId, IsWhole, SeatShown, TakerShown}
use Rattle.lola_feed.specs.Feeding.{Working}
use Rattle.lola_monitor_run.specs.Verdicts.{AreOfSources}
use Rattle.lola_monitor_run.specs.Running.{IsGoing, Keeping, setting_in}
use Rattle.lola_monitor_run.specs.Behind.{HasTakenNone, IsBehind}
use Rattle.lola_monitor_run.proofs.Sinks.{grown_nil}
use Rattle.lola_monitor_run.proofs.TextsBehind.{nothing_behind}
use Rattle.lola_monitor_run.specs.Feeds.{AreInPlace, AreReady, World, supply_of, world}
use Rattle.lola_monitor_threads.specs.Seated.{Seated, WentOn, all_seated}
use Rattle.lola_monitor_threads.specs.Takings.{Halts, HasRun, HasRunTaken, IsNewTaker, IsSameTaker, Place, Taking, place}
use Rattle.lola_monitor_threads.specs.Joining.{Joins}
use Rattle.lola_monitor_threads.specs.declared.halt.Halt.{Halt}
use Rattle.lola_monitor_threads.specs.declared.halt.Halt.TheVariants as halt
use Rattle.lola_monitor_run.proofs.Writing.{received_none}
use Rattle.lola_monitor_threads.proofs.Joined.{AreJoined, joins}
use Rattle.lola_monitor_threads.proofs.Places.{reverse_zip, zip_long}
use Rattle.lola_monitor_threads.proofs.Seating.{as_many, in_place, joined, own_seats}

-- before the first row
pub not_yet_run : (kept : Keeping) (out trace : SinkState) → HasTakenNone kept → HasRun (place kept out trace) [] (place kept out trace)
not_yet_run kept out trace none = record {
  setting = refl;
  traceable = tt;
  trace = sym (grown_nil trace);
  going = none.going;
  merged = refl;
  rows = omega (arith, none.rows);
  late = none.late;
  accepted = none.accepted;
  received = received_none out;
  stands = λ before stood. subst (λ (j : List Entry). IsBehind before j kept) (sym (append-nil before)) stood;
  out = λ before stood. sym (grown_nil out) ∙ ap (grown out) (sym (nothing_behind (setting_in kept) before));
}

-- a run all of whose rows were taken goes on
pub still_going : (halted : Result (Unit {0}) Halt) (count : ℕ) (first : Place) (entries : List Entry) (now : Place) → Halts halted count first entries now → OnOk halted (IsGoing now.kept)
still_going (Ok done) count first entries now halts = halts.0.going
still_going (Err how) count first entries now halts = tt

-- a taker that has taken nothing has run nothing
abbrev pub has_run_none : (kept : Keeping) (id : IntakeId) (count : ℕ) (taker : Taking) (out trace : SinkState) → IsNewTaker id count kept taker → HasTakenNone kept → HasRunTaken taker (place kept out trace)
has_run_none kept id count taker out trace new none = record {
  first = place kept out trace;
  opens = ap (λ (t : Taking). opening_time t.seat.start) new.made ∙ new.opens;
  run = subst (λ (t : Taking). HasRun (place kept out trace) t.seat.taken (place kept out trace)) (sym new.made) (not_yet_run kept out trace none);
}

-- how a run ends is told of workers in a slice
pub ends_with : (halted : Result (Unit {0}) Halt) (Ends : World → World → Type 0) (first : World) (k1 k2 : Keeping) (out1 out2 trace : SinkState) (news slice : List Working) → slice ≡ news
    → ((f : World) (t : SinkState) → Joins halted f (world k1 (map supply_of slice) out1 t) → Ends f (world k2 (map supply_of slice) out2 t))
    → Joins halted first (world k1 (map supply_of news) out1 trace) → Ends first (world k2 (map supply_of news) out2 trace)
ends_with halted Ends first k1 k2 out1 out2 trace news slice is ends came =
    subst (λ (l : List Working). Ends first (world k2 (map supply_of l) out2 trace)) is
    (ends first trace (subst (λ (l : List Working). Joins halted first (world k1 (map supply_of l) out1 trace)) (sym is) came))

module _ (kept : Keeping) (id : IntakeId) (olds : List Working) (seats : List SeatShown) (ready : AreReady kept.state.plan olds) (fresh : AreNewSeats id (length olds) seats) where
  module _ (waiting back : List Seated) (news : List Working) (backs : List SeatShown) (are : reverse waiting ≡ all_seated olds seats) (went : AllZip WentOn waiting back)
      (parted : all_seated news backs ≡ reverse back) (many : (length news ≡ length back) × (length backs ≡ length back)) where
    all_back : length back ≡ length olds
    all_back = zip_long WentOn waiting back went ∙ as_many kept.state.plan kept.state.given_start id olds seats ready fresh waiting are

    news_many : length news ≡ length olds
    news_many = many.0 ∙ all_back

    pub backs_many : length backs ≡ length olds
    backs_many = many.1 ∙ all_back

    all_went : AllZip WentOn (all_seated olds seats) (all_seated news backs)
    all_went = subst (λ (l : List Seated). AllZip WentOn l (all_seated news backs)) are (subst (AllZip WentOn (reverse waiting)) (sym parted) (reverse_zip WentOn waiting back went))

    pub seats_back : AreSeatsOf id backs
    seats_back = own_seats kept.state.plan kept.state.given_start id olds seats ready fresh news backs news_many backs_many all_went

    pub places_kept : AreInPlace olds news
    places_kept = in_place kept.state.plan kept.state.given_start id olds seats ready fresh news backs news_many backs_many all_went

    module _ (taker : Taking) (new : IsNewTaker id (length olds) kept taker) (taker_then : TakerShown) (same : IsSameTaker taker.seat taker_then) (left : List Entry) (whole : IsWhole taker_then backs left) where
      sources_are : taker_then.sources ≡ length olds
      sources_are = same.sources ∙ ap (λ (t : Taking). t.seat.sources) new.made

      start_is : taker_then.start ≡ new.start
      start_is = same.start ∙ ap (λ (t : Taking). t.seat.start) new.made

      all_joined : AreJoined kept.state.plan new.start olds news backs taker_then left
      all_joined = joined kept.state.plan new.start id olds seats ready fresh news backs news_many backs_many all_went taker_then left sources_are start_is whole

      module _ (now : Keeping) (out0 out1 trace0 trace1 : SinkState) (halted : Result (Unit {0}) Halt)
          (halts : (first : Place) → HasRun first taker.seat.taken (place kept out0 trace0) → AreOfSources taker.inputs.count taker.seat.taken → Halts halted taker.inputs.count first taker_then.taken (place now out1 trace1))
          (ends : OnOk halted (taker_then.done ≡ true)) (none : HasTakenNone kept) where
        begins : HasRun (place kept out0 trace0) taker.seat.taken (place kept out0 trace0)
        begins = (has_run_none kept id (length olds) taker out0 trace0 new none).run

        of_none : AreOfSources taker.inputs.count taker.seat.taken
        of_none = subst (λ (t : Taking). AreOfSources t.inputs.count t.seat.taken) (sym new.made) (All-nil (λ (e : Entry). e.row.source < length olds))

        has_halted : Halts halted (length olds) (place kept out0 trace0) taker_then.taken (place now out1 trace1)
        has_halted = subst (λ (n : ℕ). Halts halted n (place kept out0 trace0) taker_then.taken (place now out1 trace1)) (ap (λ (t : Taking). t.inputs.count) new.made) (halts (place kept out0 trace0) begins of_none)

        pub has_joined : Joins halted (world kept (map supply_of olds) out0 trace0) (world now (map supply_of news) out1 trace1)
        has_joined = joins kept.state.plan new.start olds news backs taker_then left all_joined kept now out0 out1 trace0 trace1 new.opens refl halted has_halted ends

        pub goes_on : OnOk halted (IsGoing now)
        goes_on = still_going halted (length olds) (place kept out0 trace0) taker_then.taken (place now out1 trace1) has_halted

        pub is_fit : halted ≡ Err halt.Unfit → ⊥
        is_fit is = subst (λ (h : Result (Unit {0}) Halt). Joins h (world kept (map supply_of olds) out0 trace0) (world now (map supply_of news) out1 trace1)) is has_joined
