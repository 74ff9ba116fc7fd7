use Rattle.std.proofs.Common.{[], ◌∷◌, Ok, Err}
use Rattle.lola_monitor_run.specs.Running.{keeping}
use Rattle.lola_monitor_threads.specs.Takings.{place}
use Rattle.lola_monitor_threads.proofs.Entries.{has_room, next_marked, one_run, one_stopped, ran_entered}
use Rattle.lola_monitor_threads.proofs.taking.test_entry.Goals as goal

pub enter-requires-clause-mark : goal.enter-requires-clause-mark
enter-requires-clause-mark g c κs within = next_marked (place (keeping c.args.run.now) (g.K.Sink.state c.args.out.now) (g.T.Sink.state c.args.trace.now)) c.args.entry.now [] c.requires.under_way

pub enter-requires-clause-room : goal.enter-requires-clause-room
enter-requires-clause-room g c κs within =
    has_room (place (keeping c.args.run.now) (g.K.Sink.state c.args.out.now) (g.T.Sink.state c.args.trace.now)) (c.args.entry.now ∷ []) c.requires.under_way (c.fit.ensures.0 c.if-not-fit.false).room

pub returns-in-Ok-clause-halts : goal.returns-in-Ok-clause-halts
returns-in-Ok-clause-halts g c = λ first journal run sources.
    one_run c.args.inputs.now.count first journal c.args.entry.now (place (keeping c.enter.new.self) (g.K.Sink.state c.enter.new.out) (g.T.Sink.state c.enter.new.trace))
    sources (c.fit.ensures.0 c.if-not-fit.false).source (ran_entered first journal (keeping c.args.run.now) (keeping c.enter.new.self) (g.K.Sink.state c.args.out.now) (g.K.Sink.state c.enter.new.out) (g.T.Sink.state c.args.trace.now) (g.T.Sink.state c.enter.new.trace)
    run c.args.entry.now (Ok tt) c.in-Ok.ensures.enters c.in-Ok.ensures.writes c.in-Ok.ensures.taken c.enter.ensures.setting)

pub returns-in-Ok-clause-goes : goal.returns-in-Ok-clause-goes
returns-in-Ok-clause-goes g c = λ first journal run.
    ran_entered first journal (keeping c.args.run.now) (keeping c.enter.new.self) (g.K.Sink.state c.args.out.now) (g.K.Sink.state c.enter.new.out) (g.T.Sink.state c.args.trace.now) (g.T.Sink.state c.enter.new.trace)
    run c.args.entry.now (Ok tt) c.in-Ok.ensures.enters c.in-Ok.ensures.writes c.in-Ok.ensures.taken c.enter.ensures.setting

pub returns-in-Err-clause-halts : goal.returns-in-Err-clause-halts
returns-in-Err-clause-halts g c = λ first journal run sources.
    one_stopped c.in-Err.stop c.args.inputs.now.count first journal c.args.entry.now (place (keeping c.enter.new.self) (g.K.Sink.state c.enter.new.out) (g.T.Sink.state c.enter.new.trace))
    sources (c.fit.ensures.0 c.if-not-fit.false).source (ran_entered first journal (keeping c.args.run.now) (keeping c.enter.new.self) (g.K.Sink.state c.args.out.now) (g.K.Sink.state c.enter.new.out) (g.T.Sink.state c.args.trace.now) (g.T.Sink.state c.enter.new.trace)
    run c.args.entry.now (Err c.in-Err.stop) c.in-Err.ensures.enters c.in-Err.ensures.writes tt c.enter.ensures.setting)
