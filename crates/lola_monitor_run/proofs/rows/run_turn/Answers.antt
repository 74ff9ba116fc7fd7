use Rattle.std.proofs.Common.{inl, Ok, Err}
use Rattle.lola_monitor_run.specs.Running.{keeping}
use Rattle.lola_monitor_run.specs.Feeds.{supplies_of}
use Rattle.lola_monitor_run.proofs.Stepping.{entered, gave_it, idle_still, idle_then, out_of_memory, sat_out}
use Rattle.lola_monitor_run.proofs.Turns.{in_place, in_place_then}
use Rattle.lola_monitor_run.proofs.Writing.{writes_none}
use Rattle.lola_monitor_run.proofs.rows.run_turn.Goals as goal

pub returns-then-is_out_of_memory-clause-steps : goal.returns-then-is_out_of_memory-clause-steps
returns-then-is_out_of_memory-clause-steps g c =
    inl (out_of_memory c.args.source c.args.feed.now c.turn-turn.new.self c.turn-turn.new.self (keeping c.args.run.now) c.requires.idle c.turn-turn.result c.turn-turn.ensures (g.K.Sink.state c.args.out.now) (g.T.Sink.state c.args.trace.now)
    (c.is_out_of_memory.ensures.0 c.if-is_out_of_memory.true))

pub returns-then-is_out_of_memory-clause-writes : goal.returns-then-is_out_of_memory-clause-writes
returns-then-is_out_of_memory-clause-writes g c = writes_none (g.K.Sink.state c.args.out.now) (g.T.Sink.state c.args.trace.now)

pub returns-then-is_out_of_memory-clause-places : goal.returns-then-is_out_of_memory-clause-places
returns-then-is_out_of_memory-clause-places g c = in_place c.args.source c.turn-turn.result c.args.feed.now c.turn-turn.new.self c.turn-turn.ensures

pub returns-in-None-clause-steps : goal.returns-in-None-clause-steps
returns-in-None-clause-steps g c =
    sat_out c.args.source c.args.feed.now c.turn-turn.new.self c.take.new.self (keeping c.args.run.now) c.requires.idle c.turn-turn.result c.turn-turn.ensures c.take.result c.take.ensures c.in-None.is
    (λ is. let e = c.is_out_of_memory.ensures.1 is in let f = c.if-is_out_of_memory.false in absurd (cc (e, f))) (g.K.Sink.state c.args.out.now) (g.T.Sink.state c.args.trace.now)

pub returns-in-None-clause-writes : goal.returns-in-None-clause-writes
returns-in-None-clause-writes g c = writes_none (g.K.Sink.state c.args.out.now) (g.T.Sink.state c.args.trace.now)

pub returns-in-None-clause-idle : goal.returns-in-None-clause-idle
returns-in-None-clause-idle g c =
    idle_still c.args.source c.args.feed.now c.turn-turn.new.self c.take.new.self (keeping c.args.run.now) c.requires.idle c.turn-turn.result c.turn-turn.ensures c.take.result c.take.ensures c.in-None.is
    (λ is. let e = c.is_out_of_memory.ensures.1 is in let f = c.if-is_out_of_memory.false in absurd (cc (e, f)))

pub returns-in-None-clause-places : goal.returns-in-None-clause-places
returns-in-None-clause-places g c = in_place_then c.args.source c.turn-turn.result c.args.feed.now c.turn-turn.new.self c.take.new.self c.take.result c.turn-turn.ensures c.take.ensures

pub enter-requires-clause-fits : goal.enter-requires-clause-fits
enter-requires-clause-fits g c κs lives =
    (gave_it c.args.source c.args.feed.now c.turn-turn.new.self c.take.new.self (keeping c.args.run.now) c.requires.idle c.turn-turn.result c.turn-turn.ensures c.take.result c.take.ensures c.in-Some.entry c.in-Some.is).took_row.fits

pub enter-requires-clause-mark : goal.enter-requires-clause-mark
enter-requires-clause-mark g c κs lives =
    (gave_it c.args.source c.args.feed.now c.turn-turn.new.self c.take.new.self (keeping c.args.run.now) c.requires.idle c.turn-turn.result c.turn-turn.ensures c.take.result c.take.ensures c.in-Some.entry c.in-Some.is).mark

pub returns-in-Ok-clause-steps : goal.returns-in-Ok-clause-steps
returns-in-Ok-clause-steps g c =
    let gave = gave_it c.args.source c.args.feed.now c.turn-turn.new.self c.take.new.self (keeping c.args.run.now) c.requires.idle c.turn-turn.result c.turn-turn.ensures c.take.result c.take.ensures c.in-Some.entry c.in-Some.is in
    entered (keeping c.args.run.now) (keeping c.enter.new.self) (g.K.Sink.state c.args.out.now) (g.K.Sink.state c.enter.new.out) (g.T.Sink.state c.args.trace.now) (g.T.Sink.state c.enter.new.trace) c.in-Some.entry gave.mark
    c.args.source (supplies_of c.args.feed.now) (supplies_of c.take.new.self) gave.took_row (Ok tt) c.in-Ok.ensures.enters c.in-Ok.ensures.taken c.enter.ensures.setting

pub returns-in-Ok-clause-writes : goal.returns-in-Ok-clause-writes
returns-in-Ok-clause-writes g c = c.in-Ok.ensures.writes

pub returns-in-Ok-clause-idle : goal.returns-in-Ok-clause-idle
returns-in-Ok-clause-idle g c =
    idle_then c.args.source c.args.feed.now c.turn-turn.new.self c.take.new.self (keeping c.args.run.now) c.requires.idle c.turn-turn.result c.turn-turn.ensures c.take.result c.take.ensures c.in-Some.entry c.in-Some.is
    (keeping c.enter.new.self) c.in-Ok.ensures.taken.merged c.enter.ensures.setting

pub returns-in-Ok-clause-places : goal.returns-in-Ok-clause-places
returns-in-Ok-clause-places g c = in_place_then c.args.source c.turn-turn.result c.args.feed.now c.turn-turn.new.self c.take.new.self c.take.result c.turn-turn.ensures c.take.ensures

pub returns-clause-steps : goal.returns-clause-steps
returns-clause-steps g c =
    let gave = gave_it c.args.source c.args.feed.now c.turn-turn.new.self c.take.new.self (keeping c.args.run.now) c.requires.idle c.turn-turn.result c.turn-turn.ensures c.take.result c.take.ensures c.in-Some.entry c.in-Some.is in
    entered (keeping c.args.run.now) (keeping c.enter.new.self) (g.K.Sink.state c.args.out.now) (g.K.Sink.state c.enter.new.out) (g.T.Sink.state c.args.trace.now) (g.T.Sink.state c.enter.new.trace) c.in-Some.entry gave.mark
    c.args.source (supplies_of c.args.feed.now) (supplies_of c.take.new.self) gave.took_row (Err c.in-Err.stop) c.in-Err.ensures.enters tt c.enter.ensures.setting

pub returns-clause-writes : goal.returns-clause-writes
returns-clause-writes g c = c.in-Err.ensures.writes

pub returns-clause-places : goal.returns-clause-places
returns-clause-places g c = in_place_then c.args.source c.turn-turn.result c.args.feed.now c.turn-turn.new.self c.take.new.self c.take.result c.turn-turn.ensures c.take.ensures
