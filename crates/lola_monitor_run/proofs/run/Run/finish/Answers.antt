use Rattle.std.proofs.Common.{List, ℕ, refl, subst, Ok, Err}
use Rattle.lola_monitor_run.specs.Running.{Puts, StopsAt, keeping}
use Rattle.lola_monitor_run.proofs.Taking.{closed_and_put, finishes_as, stopped_close}
use Rattle.lola_monitor_run.proofs.Writing.{put_writes, stopped_writes}
use Rattle.lola_monitor_run.proofs.run.Run.finish.Goals as goal

pub returns-in-Err-clause-closes : goal.returns-in-Err-clause-closes
returns-in-Err-clause-closes g c =
    stopped_close c.in-Err.end c.stop_at.result (keeping c.args.self.now) _ (g.K.Sink.state c.args.out.now) (g.K.Sink.state c.stop_at.new.out) c.finish.new.lines
    (finishes_as (Err c.in-Err.end) c.args.self.now.engine.state c.finish.new.self.state c.args.self.now.engine.store c.clear.new.self c.finish.new.lines c.clear.ensures c.in-Err.ensures.behind)
    (subst (λ (t : List ℕ). StopsAt c.in-Err.end c.stop_at.result t (g.K.Sink.state c.args.out.now) (g.K.Sink.state c.stop_at.new.out)) c.as_bytes.ensures c.stop_at.ensures)

pub returns-in-Err-clause-writes : goal.returns-in-Err-clause-writes
returns-in-Err-clause-writes g c = λ trace.
    stopped_writes (g.K.Sink.state c.args.out.now) (g.K.Sink.state c.stop_at.new.out) trace c.in-Err.end c.stop_at.result c.finish.new.lines
    (subst (λ (t : List ℕ). StopsAt c.in-Err.end c.stop_at.result t (g.K.Sink.state c.args.out.now) (g.K.Sink.state c.stop_at.new.out)) c.as_bytes.ensures c.stop_at.ensures)

pub returns-clause-closes : goal.returns-clause-closes
returns-clause-closes g c =
    closed_and_put c.put_text.result (keeping c.args.self.now) _ (g.K.Sink.state c.args.out.now) (g.K.Sink.state c.put_text.new.out) c.finish.new.lines
    (finishes_as (Ok tt) c.args.self.now.engine.state c.finish.new.self.state c.args.self.now.engine.store c.clear.new.self c.finish.new.lines c.clear.ensures c.in_default.ensures.behind) refl refl
    (subst (λ (t : List ℕ). Puts c.put_text.result t (g.K.Sink.state c.args.out.now) (g.K.Sink.state c.put_text.new.out)) c.as_bytes-2.ensures c.put_text.ensures)

pub returns-clause-writes : goal.returns-clause-writes
returns-clause-writes g c = λ trace.
    put_writes (g.K.Sink.state c.args.out.now) (g.K.Sink.state c.put_text.new.out) trace c.put_text.result c.finish.new.lines
    (subst (λ (t : List ℕ). Puts c.put_text.result t (g.K.Sink.state c.args.out.now) (g.K.Sink.state c.put_text.new.out)) c.as_bytes-2.ensures c.put_text.ensures)
