use Rattle.std.proofs.Common.{inl, inr, refl, subst}
use Rattle.std.specs.Prelude.{OnOk}
use Rattle.lola_model.specs.Trace.{trace_line}
use Rattle.lola_monitor_run.specs.Running.{Keeping, keeping}
use Rattle.lola_monitor_run.specs.Behind.{HasTaken, Takes}
use Rattle.lola_monitor_run.proofs.Writing.{received_none, untraced_writes, writes_more}
use Rattle.lola_monitor_run.proofs.run.Run.enter.Goals as goal

pub returns-in-Err-clause-enters : goal.returns-in-Err-clause-enters
returns-in-Err-clause-enters g c = record {
  told = c.trace.ensures.told c.requires.going c.requires.fits c.requires.mark;
  does = inl (record { how = c.in-Err.stop; is = refl; puts = c.in-Err.ensures.puts; kept = c.trace.ensures.kept; out = refl });
}

pub returns-in-Err-clause-writes : goal.returns-in-Err-clause-writes
returns-in-Err-clause-writes g c = untraced_writes c.in-Err.stop (trace_line c.args.entry.now) (g.K.Sink.state c.args.out.now) (g.T.Sink.state c.args.trace.now) (g.T.Sink.state c.trace.new.trace) c.in-Err.ensures.puts

pub returns-clause-enters : goal.returns-clause-enters
returns-clause-enters g c =
    let out = g.K.Sink.state c.args.out.now in
    let new = g.K.Sink.state c.take.new.out in
    record {
      told = c.trace.ensures.told c.requires.going c.requires.fits c.requires.mark;
      does = inr (record { trace = c.in_default.ensures.puts; takes = subst (λ (k : Keeping). Takes c.take.result c.args.entry.now k (keeping c.take.new.self) out new) c.trace.ensures.kept c.take.ensures.takes });
    }

pub returns-clause-writes : goal.returns-clause-writes
returns-clause-writes g c =
    let out = g.K.Sink.state c.args.out.now in
    let traced = g.T.Sink.state c.trace.new.trace in
    writes_more c.take.result out out (g.K.Sink.state c.take.new.out) (g.T.Sink.state c.args.trace.now) traced traced (received_none out) (trace_line c.args.entry.now, c.in_default.ensures.puts) (c.take.ensures.writes traced)

pub returns-clause-taken : goal.returns-clause-taken
returns-clause-taken g c = subst (λ (k : Keeping). OnOk c.take.result (HasTaken c.args.entry.now k (keeping c.take.new.self))) c.trace.ensures.kept c.take.ensures.taken
