use Rattle.std.proofs.Common.{true}
use Rattle.lola_monitor_run.specs.Running.{keeping}
use Rattle.lola_monitor_run.specs.Feeds.{supplies_of, world}
use Rattle.lola_monitor_run.proofs.Closing.{stays_ended}
use Rattle.lola_monitor_run.proofs.Runs.{ran_behind}
use Rattle.lola_monitor_run.proofs.rows.run_whole.Goals as goal

pub returns-in-Ok-clause-ends : goal.returns-in-Ok-clause-ends
returns-in-Ok-clause-ends g c =
    let first = world (keeping c.args.run.now) (supplies_of c.args.feed.now) (g.K.Sink.state c.args.out.now) (g.T.Sink.state c.args.trace.now) in
    c.run_out.ensures.ends first (supplies_of c.run_rows.new.feed) (g.T.Sink.state c.run_rows.new.trace) c.in-Ok.ensures.ends

pub returns-in-Ok-clause-behind : goal.returns-in-Ok-clause-behind
returns-in-Ok-clause-behind g c = λ before stood.
    let first = world (keeping c.args.run.now) (supplies_of c.args.feed.now) (g.K.Sink.state c.args.out.now) (g.T.Sink.state c.args.trace.now) in
    let last = world (keeping c.run_rows.new.run) (supplies_of c.run_rows.new.feed) (g.K.Sink.state c.run_rows.new.out) (g.T.Sink.state c.run_rows.new.trace) in
    let ran = c.in-Ok.ensures.run in
    c.run_out.ensures.behind true before first (supplies_of c.run_rows.new.feed) (g.T.Sink.state c.run_rows.new.trace) (ran_behind first ran.0.0 last ran.0.1 ran.1 before stood)

pub returns-in-Err-clause-ends : goal.returns-in-Err-clause-ends
returns-in-Err-clause-ends g c = c.in-Err.ensures.ends

pub returns-in-Err-clause-behind : goal.returns-in-Err-clause-behind
returns-in-Err-clause-behind g c = λ before stood.
    let first = world (keeping c.args.run.now) (supplies_of c.args.feed.now) (g.K.Sink.state c.args.out.now) (g.T.Sink.state c.args.trace.now) in
    let last = world (keeping c.run_rows.new.run) (supplies_of c.run_rows.new.feed) (g.K.Sink.state c.run_rows.new.out) (g.T.Sink.state c.run_rows.new.trace) in
    stays_ended true before first last c.in-Err.stop (c.in-Err.ensures.run before stood)
