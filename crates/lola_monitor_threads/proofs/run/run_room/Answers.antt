use Rattle.std.proofs.Common.{ℕ, false, List, length, map, sym, ap, ◌∙◌, subst, arith, rules}
use Rattle.std.proofs.lemmas.List.{length-map}
use Rattle.lola_model.specs.declared.journal.Entry.{Entry}
use Rattle.lola_monitor_run.specs.Running.{keeping}
use Rattle.lola_monitor_run.specs.Behind.{EndsBehind, IsBehind}
use Rattle.lola_monitor_run.specs.Feeds.{RunEnds, supply_of, world}
use Rattle.lola_monitor_threads.specs.Joining.{HaveFlags}
use Rattle.lola_monitor_threads.specs.Takings.{Taking}
use Rattle.lola_monitor_threads.proofs.Places.{zip_long}
use Rattle.lola_monitor_threads.specs.Seated.{WentOn}
use Rattle.lola_monitor_threads.proofs.Seating.{as_many, at_intake, have_flags, in_pairs}
use Rattle.lola_monitor_threads.proofs.Threading.{backs_many, ends_with, goes_on, has_joined, has_run_none, is_fit, places_kept, seats_back}
use Rattle.lola_monitor_run.proofs.Writing.{ends_at_first}
use Rattle.lola_monitor_threads.proofs.Settling.{never_went}
use Rattle.lola_monitor_threads.proofs.run.run_room.Goals as goal

pub seat_all-requires-clause-pairs : goal.seat_all-requires-clause-pairs
seat_all-requires-clause-pairs g c = in_pairs (keeping c.args.run.now).state.plan (keeping c.args.run.now).state.given_start (g.I.SourceIntake.id c.args.room.intake) c.args.workers.items (map g.P.IntakeSeat.shows c.args.room.seats.items) c.requires.ready c.requires.seats

pub send_all-back-requires-after_bounds : goal.send_all-back-requires-after_bounds
send_all-back-requires-after_bounds g c κs within = record {
  ready = record {
    own = ap (λ (t : Taking). t.seat.intake) c.requires.taker.made;
    kinds = ap (λ (t : Taking). t.inputs.kinds) c.requires.taker.made;
    empty = ap (λ (t : Taking). t.batch) c.requires.taker.made;
  };
  waiting_at = at_intake (keeping c.args.run.now).state.plan (keeping c.args.run.now).state.given_start (g.I.SourceIntake.id c.args.room.intake) c.args.workers.items (map g.P.IntakeSeat.shows c.args.room.seats.items) c.requires.ready c.requires.seats
      c.seat_all.new.waiting.items c.seat_all.ensures.seated;
  none_here = search rules;
  none_back = c.requires.back.0;
  have_flags = subst (λ (n : ℕ). HaveFlags n c.seat_all.new.waiting.items) (sym (ap length c.deref.ensures.value ∙ c.requires.flags))
      (have_flags (keeping c.args.run.now).state.plan (keeping c.args.run.now).state.given_start (g.I.SourceIntake.id c.args.room.intake) c.args.workers.items (map g.P.IntakeSeat.shows c.args.room.seats.items) c.requires.ready c.requires.seats c.seat_all.new.waiting.items c.seat_all.ensures.seated);
  fit_here = let many = as_many (keeping c.args.run.now).state.plan (keeping c.args.run.now).state.given_start (g.I.SourceIntake.id c.args.room.intake) c.args.workers.items (map g.P.IntakeSeat.shows c.args.room.seats.items) c.requires.ready c.requires.seats c.seat_all.new.waiting.items c.seat_all.ensures.seated in
      omega (arith, c.in-Ok.ensures.capacity, c.len.ensures, c.args.workers.ok.0, many);
  fit_back = let many = as_many (keeping c.args.run.now).state.plan (keeping c.args.run.now).state.given_start (g.I.SourceIntake.id c.args.room.intake) c.args.workers.items (map g.P.IntakeSeat.shows c.args.room.seats.items) c.requires.ready c.requires.seats c.seat_all.new.waiting.items c.seat_all.ensures.seated in
      omega (arith, c.requires.back.1, many);
  run = has_run_none (keeping c.args.run.now) (g.I.SourceIntake.id c.args.room.intake) (length c.args.workers.items) c.args.room.taker (g.K.Sink.state c.args.out.now) (g.T.Sink.state c.args.trace.now) c.requires.taker c.requires.none;
}

pub take_apart-requires-clause-room : goal.take_apart-requires-clause-room
take_apart-requires-clause-room g c =
    let many = as_many (keeping c.args.run.now).state.plan (keeping c.args.run.now).state.given_start (g.I.SourceIntake.id c.args.room.intake) c.args.workers.items (map g.P.IntakeSeat.shows c.args.room.seats.items) c.requires.ready c.requires.seats c.seat_all.new.waiting.items c.seat_all.ensures.seated in
    let back = zip_long WentOn c.seat_all.new.waiting.items c.send_all-back.result.0.items c.send_all-back.ensures.back in (
      omega (arith, many, back, c.seat_all.ensures.workers.1, c.args.workers.ok.0, c.args.workers.ok.1),
      omega (arith, many, back, c.seat_all.ensures.seats.1, c.requires.seats.many, length-map c.args.room.seats.items g.P.IntakeSeat.shows, c.args.room.seats.ok.0, c.args.room.seats.ok.1),
    )

pub end-requires-clause-seats : goal.end-requires-clause-seats
end-requires-clause-seats g c = seats_back (keeping c.args.run.now) (g.I.SourceIntake.id c.args.room.intake) c.args.workers.items (map g.P.IntakeSeat.shows c.args.room.seats.items) c.requires.ready c.requires.seats c.seat_all.new.waiting.items c.send_all-back.result.0.items
    c.take_apart.new.workers.items (map g.P.IntakeSeat.shows c.take_apart.new.seats.items) c.seat_all.ensures.seated c.send_all-back.ensures.back c.take_apart.ensures.seated (c.take_apart.ensures.many.0, length-map c.take_apart.new.seats.items g.P.IntakeSeat.shows ∙ c.take_apart.ensures.many.1)

pub end-requires-clause-all : goal.end-requires-clause-all
end-requires-clause-all g c =
    sym (length-map c.take_apart.new.seats.items g.P.IntakeSeat.shows)
    ∙ backs_many (keeping c.args.run.now) (g.I.SourceIntake.id c.args.room.intake) c.args.workers.items (map g.P.IntakeSeat.shows c.args.room.seats.items) c.requires.ready c.requires.seats c.seat_all.new.waiting.items c.send_all-back.result.0.items
    c.take_apart.new.workers.items (map g.P.IntakeSeat.shows c.take_apart.new.seats.items) c.seat_all.ensures.seated c.send_all-back.ensures.back c.take_apart.ensures.seated (c.take_apart.ensures.many.0, length-map c.take_apart.new.seats.items g.P.IntakeSeat.shows ∙ c.take_apart.ensures.many.1)
    ∙ sym (c.send_all-back.ensures.seat.sources ∙ ap (λ (t : Taking). t.seat.sources) c.requires.taker.made)

pub run_end-stopped-requires-clause-going : goal.run_end-stopped-requires-clause-going
run_end-stopped-requires-clause-going g c κs within =
    goes_on (keeping c.args.run.now) (g.I.SourceIntake.id c.args.room.intake) c.args.workers.items (map g.P.IntakeSeat.shows c.args.room.seats.items) c.requires.ready c.requires.seats c.seat_all.new.waiting.items c.send_all-back.result.0.items
    c.take_apart.new.workers.items (map g.P.IntakeSeat.shows c.take_apart.new.seats.items) c.seat_all.ensures.seated c.send_all-back.ensures.back c.take_apart.ensures.seated (c.take_apart.ensures.many.0, length-map c.take_apart.new.seats.items g.P.IntakeSeat.shows ∙ c.take_apart.ensures.many.1)
    c.args.room.taker c.requires.taker c.send_all-back.new.taker.seat c.send_all-back.ensures.seat c.end.new.left c.end.ensures
    (keeping c.send_all-back.new.run) (g.K.Sink.state c.args.out.now) (g.K.Sink.state c.send_all-back.new.out) (g.T.Sink.state c.args.trace.now) (g.T.Sink.state c.send_all-back.new.trace)
    c.send_all-back.result.1 c.send_all-back.ensures.halts c.send_all-back.ensures.done c.requires.none

pub run_end-stopped-requires-clause-fit : goal.run_end-stopped-requires-clause-fit
run_end-stopped-requires-clause-fit g c κs within =
    is_fit (keeping c.args.run.now) (g.I.SourceIntake.id c.args.room.intake) c.args.workers.items (map g.P.IntakeSeat.shows c.args.room.seats.items) c.requires.ready c.requires.seats c.seat_all.new.waiting.items c.send_all-back.result.0.items
    c.take_apart.new.workers.items (map g.P.IntakeSeat.shows c.take_apart.new.seats.items) c.seat_all.ensures.seated c.send_all-back.ensures.back c.take_apart.ensures.seated (c.take_apart.ensures.many.0, length-map c.take_apart.new.seats.items g.P.IntakeSeat.shows ∙ c.take_apart.ensures.many.1)
    c.args.room.taker c.requires.taker c.send_all-back.new.taker.seat c.send_all-back.ensures.seat c.end.new.left c.end.ensures
    (keeping c.send_all-back.new.run) (g.K.Sink.state c.args.out.now) (g.K.Sink.state c.send_all-back.new.out) (g.T.Sink.state c.args.trace.now) (g.T.Sink.state c.send_all-back.new.trace)
    c.send_all-back.result.1 c.send_all-back.ensures.halts c.send_all-back.ensures.done c.requires.none

pub returns-in_default-clause-ends : goal.returns-in_default-clause-ends
returns-in_default-clause-ends g c = ends_at_first (world (keeping c.args.run.now) (map supply_of c.args.workers.items) (g.K.Sink.state c.args.out.now) (g.T.Sink.state c.args.trace.now))

pub returns-in_default-clause-behind : goal.returns-in_default-clause-behind
returns-in_default-clause-behind g c = λ before stood.
    never_went (keeping c.args.run.now) c.args.workers.items (g.K.Sink.state c.args.out.now) (g.T.Sink.state c.args.trace.now) c.requires.none c.requires.ready before stood

pub returns-clause-ends : goal.returns-clause-ends
returns-clause-ends g c =
    ends_with c.send_all-back.result.1 (λ first last. RunEnds c.run_end-stopped.result first last)
    (world (keeping c.args.run.now) (map supply_of c.args.workers.items) (g.K.Sink.state c.args.out.now) (g.T.Sink.state c.args.trace.now))
    (keeping c.send_all-back.new.run) (keeping c.run_end-stopped.new.run) (g.K.Sink.state c.send_all-back.new.out) (g.K.Sink.state c.run_end-stopped.new.out) (g.T.Sink.state c.send_all-back.new.trace)
    c.take_apart.new.workers.items c.as_slice.result.now c.as_slice.ensures.value c.run_end-stopped.ensures.ends
    (has_joined (keeping c.args.run.now) (g.I.SourceIntake.id c.args.room.intake) c.args.workers.items (map g.P.IntakeSeat.shows c.args.room.seats.items) c.requires.ready c.requires.seats c.seat_all.new.waiting.items c.send_all-back.result.0.items
    c.take_apart.new.workers.items (map g.P.IntakeSeat.shows c.take_apart.new.seats.items) c.seat_all.ensures.seated c.send_all-back.ensures.back c.take_apart.ensures.seated (c.take_apart.ensures.many.0, length-map c.take_apart.new.seats.items g.P.IntakeSeat.shows ∙ c.take_apart.ensures.many.1)
    c.args.room.taker c.requires.taker c.send_all-back.new.taker.seat c.send_all-back.ensures.seat c.end.new.left c.end.ensures
    (keeping c.send_all-back.new.run) (g.K.Sink.state c.args.out.now) (g.K.Sink.state c.send_all-back.new.out) (g.T.Sink.state c.args.trace.now) (g.T.Sink.state c.send_all-back.new.trace)
    c.send_all-back.result.1 c.send_all-back.ensures.halts c.send_all-back.ensures.done c.requires.none)

pub returns-clause-behind : goal.returns-clause-behind
returns-clause-behind g c =
    ends_with c.send_all-back.result.1 (λ first last. (before : List Entry) → IsBehind before before first.kept → EndsBehind false before c.run_end-stopped.result first last)
    (world (keeping c.args.run.now) (map supply_of c.args.workers.items) (g.K.Sink.state c.args.out.now) (g.T.Sink.state c.args.trace.now))
    (keeping c.send_all-back.new.run) (keeping c.run_end-stopped.new.run) (g.K.Sink.state c.send_all-back.new.out) (g.K.Sink.state c.run_end-stopped.new.out) (g.T.Sink.state c.send_all-back.new.trace)
    c.take_apart.new.workers.items c.as_slice.result.now c.as_slice.ensures.value c.run_end-stopped.ensures.behind
    (has_joined (keeping c.args.run.now) (g.I.SourceIntake.id c.args.room.intake) c.args.workers.items (map g.P.IntakeSeat.shows c.args.room.seats.items) c.requires.ready c.requires.seats c.seat_all.new.waiting.items c.send_all-back.result.0.items
    c.take_apart.new.workers.items (map g.P.IntakeSeat.shows c.take_apart.new.seats.items) c.seat_all.ensures.seated c.send_all-back.ensures.back c.take_apart.ensures.seated (c.take_apart.ensures.many.0, length-map c.take_apart.new.seats.items g.P.IntakeSeat.shows ∙ c.take_apart.ensures.many.1)
    c.args.room.taker c.requires.taker c.send_all-back.new.taker.seat c.send_all-back.ensures.seat c.end.new.left c.end.ensures
    (keeping c.send_all-back.new.run) (g.K.Sink.state c.args.out.now) (g.K.Sink.state c.send_all-back.new.out) (g.T.Sink.state c.args.trace.now) (g.T.Sink.state c.send_all-back.new.trace)
    c.send_all-back.result.1 c.send_all-back.ensures.halts c.send_all-back.ensures.done c.requires.none)

pub returns-clause-places : goal.returns-clause-places
returns-clause-places g c = places_kept (keeping c.args.run.now) (g.I.SourceIntake.id c.args.room.intake) c.args.workers.items (map g.P.IntakeSeat.shows c.args.room.seats.items) c.requires.ready c.requires.seats c.seat_all.new.waiting.items c.send_all-back.result.0.items
    c.take_apart.new.workers.items (map g.P.IntakeSeat.shows c.take_apart.new.seats.items) c.seat_all.ensures.seated c.send_all-back.ensures.back c.take_apart.ensures.seated (c.take_apart.ensures.many.0, length-map c.take_apart.new.seats.items g.P.IntakeSeat.shows ∙ c.take_apart.ensures.many.1)
