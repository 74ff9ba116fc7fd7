use Rattle.lola_monitor_run.specs.Running.{keeping}
use Rattle.lola_monitor_run.proofs.Closing.{closes}
use Rattle.lola_monitor_run.proofs.Writing.{ends_then}
use Rattle.lola_monitor_run.proofs.rows.run_out.Goals as goal

pub returns-clause-ends : goal.returns-clause-ends
returns-clause-ends g c = λ first sources trace ran.
    ends_then c.finish.result first (keeping c.args.run.now) (keeping c.finish.new.self) sources (g.K.Sink.state c.args.out.now) (g.K.Sink.state c.finish.new.out) trace ran (c.finish.ensures.writes trace)

pub returns-clause-behind : goal.returns-clause-behind
returns-clause-behind g c = λ in_turns before first sources trace ran.
    closes in_turns before first (keeping c.args.run.now) (keeping c.finish.new.self) sources (g.K.Sink.state c.args.out.now) (g.K.Sink.state c.finish.new.out) trace ran c.finish.result c.finish.ensures.closes
