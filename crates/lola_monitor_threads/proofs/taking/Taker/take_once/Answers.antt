use Rattle.std.proofs.Common.{Err, Ok}
use Rattle.lola_monitor_run.specs.Running.{keeping}
use Rattle.lola_monitor_threads.specs.Takings.{place}
use Rattle.lola_monitor_threads.proofs.Took.{marked_after, rows_go, rows_halt, rows_next, same_after, took_all}
use Rattle.lola_monitor_threads.proofs.taking.Taker.take_once.Goals as goal

pub run_batch-requires-clause-under_way : goal.run_batch-requires-clause-under_way
run_batch-requires-clause-under_way g c κs within =
    let p = c.self.inside in
    let take = c.take-take in
    let shows = g.Q.IntakeTaker.shows in
    rows_next c.args.self.now (shows p.seat) (shows take.new.taker) p.inputs p.batch c.self.view_is take.result take.new.into take.ensures.takes
    (place (keeping c.args.run.now) (g.K.Sink.state c.args.out.now) (g.T.Sink.state c.args.trace.now)) c.requires.run

pub returns-in-Err-clause-halts : goal.returns-in-Err-clause-halts
returns-in-Err-clause-halts g c =
    let p = c.self.inside in
    let take = c.take-take in
    let shows = g.Q.IntakeTaker.shows in
    rows_halt c.args.self.now (shows p.seat) (shows take.new.taker) p.inputs p.batch c.self.view_is take.result take.new.into take.ensures.takes (Err c.in-Err.halt)
    (place (keeping c.args.run.now) (g.K.Sink.state c.args.out.now) (g.T.Sink.state c.args.trace.now)) (place (keeping c.run_batch.new.run) (g.K.Sink.state c.run_batch.new.out) (g.T.Sink.state c.run_batch.new.trace))
    c.in-Err.ensures.halts

pub returns-in-Err-clause-marked : goal.returns-in-Err-clause-marked
returns-in-Err-clause-marked g c =
    let p = c.self.inside in
    let take = c.take-take in
    let shows = g.Q.IntakeTaker.shows in
    marked_after c.args.self.now (shows p.seat) (shows take.new.taker) p.inputs p.batch c.self.view_is take.result take.new.into take.ensures.takes

pub returns-in-Err-clause-seat : goal.returns-in-Err-clause-seat
returns-in-Err-clause-seat g c =
    let p = c.self.inside in
    let take = c.take-take in
    let shows = g.Q.IntakeTaker.shows in
    same_after c.args.self.now (shows p.seat) (shows take.new.taker) p.inputs p.batch c.self.view_is take.result take.new.into take.ensures.takes

pub returns-clause-halts : goal.returns-clause-halts
returns-clause-halts g c =
    let p = c.self.inside in
    let take = c.take-take in
    let shows = g.Q.IntakeTaker.shows in
    rows_halt c.args.self.now (shows p.seat) (shows take.new.taker) p.inputs p.batch c.self.view_is take.result take.new.into take.ensures.takes (Ok tt)
    (place (keeping c.args.run.now) (g.K.Sink.state c.args.out.now) (g.T.Sink.state c.args.trace.now)) (place (keeping c.run_batch.new.run) (g.K.Sink.state c.run_batch.new.out) (g.T.Sink.state c.run_batch.new.trace))
    c.in_default.ensures.halts

pub returns-clause-goes : goal.returns-clause-goes
returns-clause-goes g c =
    let p = c.self.inside in
    let take = c.take-take in
    let shows = g.Q.IntakeTaker.shows in
    rows_go c.args.self.now (shows p.seat) (shows take.new.taker) p.inputs p.batch c.self.view_is take.result take.new.into take.ensures.takes
    (place (keeping c.args.run.now) (g.K.Sink.state c.args.out.now) (g.T.Sink.state c.args.trace.now)) (place (keeping c.run_batch.new.run) (g.K.Sink.state c.run_batch.new.out) (g.T.Sink.state c.run_batch.new.trace))
    c.in_default.ensures.goes

pub returns-clause-done : goal.returns-clause-done
returns-clause-done g c = λ done.
    let take = c.take-take in
    let shows = g.Q.IntakeTaker.shows in
    took_all take.result take.new.into (shows c.self.inside.seat) (shows take.new.taker) take.ensures.takes (c.is_all_done.ensures.0 done)

pub returns-clause-marked : goal.returns-clause-marked
returns-clause-marked g c =
    let p = c.self.inside in
    let take = c.take-take in
    let shows = g.Q.IntakeTaker.shows in
    marked_after c.args.self.now (shows p.seat) (shows take.new.taker) p.inputs p.batch c.self.view_is take.result take.new.into take.ensures.takes

pub returns-clause-seat : goal.returns-clause-seat
returns-clause-seat g c =
    let p = c.self.inside in
    let take = c.take-take in
    let shows = g.Q.IntakeTaker.shows in
    same_after c.args.self.now (shows p.seat) (shows take.new.taker) p.inputs p.batch c.self.view_is take.result take.new.into take.ensures.takes
