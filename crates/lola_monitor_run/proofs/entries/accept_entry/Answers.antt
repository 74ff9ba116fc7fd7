use Rattle.lola_monitor_run.proofs.Handed.{late_runs}
use Rattle.lola_monitor_run.proofs.entries.accept_entry.Goals as goal

pub returns-in-None-clause-takes : goal.returns-in-None-clause-takes
returns-in-None-clause-takes g c =
    let e = c.args.engine.now in
    late_runs e.state (g.S.StreamStore.seen e.store) (g.S.StreamStore.remembers e.store) c.args.entry.now c.in-None.ensures.0 c.in-None.ensures.1 c.args.lines.now
