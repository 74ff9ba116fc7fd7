use Rattle.std.proofs.Common.{◌∙◌, ℕ, Option, Ok, Err, refl, sym, ap, subst}
use Rattle.lola_model.specs.Journal.{IsLegalFrom, opening_time}
use Rattle.lola_feed.specs.SharedIntakes.{TakerShown}
use Rattle.lola_monitor_run.specs.Running.{keeping}
use Rattle.lola_monitor_threads.specs.Takings.{Halts, InputsOf, IsSameTaker, Taking, place}
use Rattle.lola_monitor_threads.proofs.Passing.{all_go_on_twice, all_stay}
use Rattle.lola_monitor_threads.proofs.Took.{closing_same, halts_on, same_taker_twice, still_taker, taken_on}
use Rattle.lola_monitor_threads.proofs.taking.Taker.take_all.Goals as goal

pub loop-init : goal.loop-init
loop-init g c = record {
  turns = (tt, tt);
  ready = c.requires.ready;
  here = all_stay c.args.here.items;
  room = refl;
  seat = still_taker c.args.self.now.seat;
  inputs = refl;
  setting = refl;
  run = c.requires.run;
  halts = λ first run sources. (run, sources);
}

pub returns-in-Ok-true-clause-halts : goal.returns-in-Ok-true-clause-halts
returns-in-Ok-true-clause-halts g c = λ first run sources.
    let inv = c.loop.invariant in
    let now = place (keeping c.loop.run) (g.K.Sink.state c.loop.out) (g.T.Sink.state c.loop.trace) in
    let next = place (keeping c.take_once.new.run) (g.K.Sink.state c.take_once.new.out) (g.T.Sink.state c.take_once.new.trace) in
    halts_on (Ok tt) c.args.self.now.inputs.count c.loop.self.inputs.count first c.loop.self.seat.taken c.take_once.new.self.seat.taken now next
    (ap (λ (i : InputsOf). i.count) inv.inputs) (c.in-Ok-true.ensures.halts first) (inv.halts first run sources)

pub returns-in-Ok-true-clause-done : goal.returns-in-Ok-true-clause-done
returns-in-Ok-true-clause-done g c = c.in-Ok-true.ensures.done c.in-Ok-true.field-0-test

pub returns-in-Ok-true-clause-here : goal.returns-in-Ok-true-clause-here
returns-in-Ok-true-clause-here g c = all_go_on_twice c.args.here.items c.loop.here.items c.turn_here.new.here.items c.loop.invariant.here c.turn_here.ensures.here

pub loop-preserved : goal.loop-preserved
loop-preserved g c =
    let inv = c.loop.invariant in
    let now = place (keeping c.loop.run) (g.K.Sink.state c.loop.out) (g.T.Sink.state c.loop.trace) in
    let next = place (keeping c.take_once.new.run) (g.K.Sink.state c.take_once.new.out) (g.T.Sink.state c.take_once.new.trace) in
    record {
      turns = (tt, tt);
      ready = c.in-Ok-false.ensures.ready;
      here = all_go_on_twice c.args.here.items c.loop.here.items c.turn_here.new.here.items inv.here c.turn_here.ensures.here;
      room = c.turn_here.ensures.room ∙ inv.room;
      seat = same_taker_twice c.args.self.now.seat c.loop.self.seat c.take_once.new.self.seat inv.seat c.take_once.ensures.seat;
      inputs = c.take_once.ensures.inputs ∙ inv.inputs;
      setting = c.take_once.ensures.setting ∙ inv.setting;
      run = taken_on c.loop.self c.take_once.new.self now next c.take_once.ensures.seat inv.run c.in-Ok-false.ensures.goes;
      halts = λ first run sources. halts_on (Ok tt) c.args.self.now.inputs.count c.loop.self.inputs.count first c.loop.self.seat.taken c.take_once.new.self.seat.taken now next
          (ap (λ (i : InputsOf). i.count) inv.inputs) (c.in-Ok-false.ensures.halts first) (inv.halts first run sources);
    }

pub returns-in-Err-clause-halts : goal.returns-in-Err-clause-halts
returns-in-Err-clause-halts g c = λ first run sources.
    let inv = c.loop.invariant in
    let now = place (keeping c.loop.run) (g.K.Sink.state c.loop.out) (g.T.Sink.state c.loop.trace) in
    let next = place (keeping c.take_once.new.run) (g.K.Sink.state c.take_once.new.out) (g.T.Sink.state c.take_once.new.trace) in
    subst (λ l. Halts (Err c.in-Err.halt) c.args.self.now.inputs.count first l next)
    (sym (ap (λ (p : TakerShown). p.taken) c.close.ensures.shows ∙ ap (λ (t : Taking). t.seat.taken) c.self.view_is))
    (halts_on (Err c.in-Err.halt) c.args.self.now.inputs.count c.loop.self.inputs.count first c.loop.self.seat.taken c.take_once.new.self.seat.taken now next
    (ap (λ (i : InputsOf). i.count) inv.inputs) (c.in-Err.ensures.halts first) (inv.halts first run sources))

pub returns-in-Err-clause-marked : goal.returns-in-Err-clause-marked
returns-in-Err-clause-marked g c =
    subst (IsLegalFrom (opening_time c.args.self.now.seat.start))
    (sym (ap (λ (p : TakerShown). p.taken) c.close.ensures.shows ∙ ap (λ (t : Taking). t.seat.taken) c.self.view_is))
    (subst (λ (o : Option ℕ). IsLegalFrom (opening_time o) c.take_once.new.self.seat.taken) c.loop.invariant.seat.start c.take_once.ensures.marked)

pub returns-in-Err-clause-seat : goal.returns-in-Err-clause-seat
returns-in-Err-clause-seat g c =
    same_taker_twice c.args.self.now.seat c.take_once.new.self.seat _ (same_taker_twice c.args.self.now.seat c.loop.self.seat c.take_once.new.self.seat c.loop.invariant.seat c.take_once.ensures.seat)
    (subst (λ (t : Taking). IsSameTaker t.seat (g.Q.IntakeTaker.shows c.close.new.taker)) c.self.view_is (closing_same (g.Q.IntakeTaker.shows c.self.inside.seat) (g.Q.IntakeTaker.shows c.close.new.taker) c.close.ensures.shows))

pub returns-in-Err-clause-here : goal.returns-in-Err-clause-here
returns-in-Err-clause-here g c = all_go_on_twice c.args.here.items c.loop.here.items c.turn_here.new.here.items c.loop.invariant.here c.turn_here.ensures.here
