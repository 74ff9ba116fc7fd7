use Rattle.std.proofs.Common.{List, ℕ, refl, subst, Ok, Err}
use Rattle.lola_monitor_run.specs.Running.{Puts, StopsAt, keeping}
use Rattle.lola_monitor_run.proofs.Taking.{accepts_as, ran_and_put, set_as, stopped_row}
use Rattle.lola_monitor_run.proofs.run.Run.accept.Goals as goal

pub returns-in-Err-clause-runs : goal.returns-in-Err-clause-runs
returns-in-Err-clause-runs g c =
    stopped_row c.in-Err.end c.stop_at.result c.args.row.now (keeping c.args.self.now) _ (g.K.Sink.state c.args.out.now) (g.K.Sink.state c.stop_at.new.out) c.accept.new.lines
    (accepts_as (Err c.in-Err.end) c.args.row.now c.args.self.now.engine.state c.accept.new.self.state c.args.self.now.engine.store c.accept.new.self.store c.clear.new.self c.accept.new.lines c.clear.ensures c.in-Err.ensures.behind)
    (subst (λ (t : List ℕ). StopsAt c.in-Err.end c.stop_at.result t (g.K.Sink.state c.args.out.now) (g.K.Sink.state c.stop_at.new.out)) c.as_bytes.ensures c.stop_at.ensures)

pub returns-clause-runs : goal.returns-clause-runs
returns-clause-runs g c =
    ran_and_put c.put_text.result c.args.row.now (keeping c.args.self.now) _ (g.K.Sink.state c.args.out.now) (g.K.Sink.state c.put_text.new.out) c.accept.new.lines
    (record {
      accepts = accepts_as (Ok tt) c.args.row.now c.args.self.now.engine.state c.accept.new.self.state c.args.self.now.engine.store c.accept.new.self.store c.clear.new.self c.accept.new.lines c.clear.ensures c.in_default.ensures.behind;
      going = c.in_default.ensures.engine;
      merged = c.in_default.ensures.merged;
      accepted = refl;
      late = refl;
      rows = c.in_default.ensures.rows;
      setting = set_as c.args.self.now.engine.state c.accept.new.self.state c.in_default.ensures.plan c.in_default.ensures.given_start c.in_default.ensures.show;
    })
    (subst (λ (t : List ℕ). Puts c.put_text.result t (g.K.Sink.state c.args.out.now) (g.K.Sink.state c.put_text.new.out)) c.as_bytes-2.ensures c.put_text.ensures)
