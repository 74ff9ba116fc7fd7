use Rattle.std.proofs.Common.{◌≡◌, true, length, map, subst, sym, arith}
use Rattle.lola_monitor_run.specs.Running.{keeping}
use Rattle.lola_monitor_run.specs.Feeds.{Feeding, IsFresh, IsIdle, RunEnds, supply_of, world}
use Rattle.lola_monitor_run.specs.Behind.{RunsBehind}
use Rattle.lola_monitor_run.proofs.Beginning.{never_went_on, over_workers, ready_fresh, ready_idle}
use Rattle.lola_monitor_run.proofs.Runs.{all_rows}
use Rattle.lola_monitor_run.proofs.Writing.{ends_at_first}
use Rattle.lola_monitor_run.proofs.rows.rows_in_turns.Goals as goal

pub returns-in-Err-clause-run : goal.returns-in-Err-clause-run
returns-in-Err-clause-run g c = λ before stood.
    never_went_on (keeping c.args.run.now) c.args.workers.items (g.K.Sink.state c.args.out.now) (g.T.Sink.state c.args.trace.now) before c.requires.none stood c.requires.ready

pub returns-in-Err-clause-ends : goal.returns-in-Err-clause-ends
returns-in-Err-clause-ends g c = ends_at_first (world (keeping c.args.run.now) (map supply_of c.args.workers.items) (g.K.Sink.state c.args.out.now) (g.T.Sink.state c.args.trace.now))

pub run_rows-stopped-requires-clause-idle : goal.run_rows-stopped-requires-clause-idle
run_rows-stopped-requires-clause-idle g c κs within =
    let feed : Feeding = record { workers = c.args.workers.items; merging = c.in-Ok.room.0; batch = c.in-Ok.room.1 } in
    let many : c.len-sources.result ≡ length c.args.workers.items = omega (arith, c.len-sources.ensures, c.args.workers.ok.0) in
    subst (λ (f : Feeding). IsIdle f (keeping c.args.run.now)) (sym c.create-feed.ensures)
    (ready_idle (keeping c.args.run.now) feed c.len-sources.result c.args.start c.requires.ready c.requires.start many c.in-Ok.ensures.state c.in-Ok.ensures.batch)

pub run_rows-stopped-requires-clause-fresh : goal.run_rows-stopped-requires-clause-fresh
run_rows-stopped-requires-clause-fresh g c κs within =
    let feed : Feeding = record { workers = c.args.workers.items; merging = c.in-Ok.room.0; batch = c.in-Ok.room.1 } in
    subst (λ (f : Feeding). IsFresh f) (sym c.create-feed.ensures) (ready_fresh (keeping c.args.run.now).state.plan feed c.requires.ready)

pub returns-clause-run : goal.returns-clause-run
returns-clause-run g c = λ before stood.
    let out = g.K.Sink.state in
    let trace = g.T.Sink.state in
    over_workers
    (λ olds news.
    RunsBehind true before c.run_rows-stopped.result (world (keeping c.args.run.now) olds (out c.args.out.now) (trace c.args.trace.now)) (world (keeping c.run_rows-stopped.new.run) news (out c.run_rows-stopped.new.out) (trace c.run_rows-stopped.new.trace)))
    c.create-feed.result c.run_rows-stopped.new.feed c.args.workers.items c.into_workers.result.items c.in-Ok.room.0 c.in-Ok.room.1 c.create-feed.ensures c.into_workers.ensures
    (all_rows c.run_rows-stopped.result _ _ c.run_rows-stopped.ensures.run before stood)

pub returns-clause-ends : goal.returns-clause-ends
returns-clause-ends g c =
    let out = g.K.Sink.state in
    let trace = g.T.Sink.state in
    over_workers
    (λ olds news.
    RunEnds c.run_rows-stopped.result (world (keeping c.args.run.now) olds (out c.args.out.now) (trace c.args.trace.now)) (world (keeping c.run_rows-stopped.new.run) news (out c.run_rows-stopped.new.out) (trace c.run_rows-stopped.new.trace)))
    c.create-feed.result c.run_rows-stopped.new.feed c.args.workers.items c.into_workers.result.items c.in-Ok.room.0 c.in-Ok.room.1 c.create-feed.ensures c.into_workers.ensures c.run_rows-stopped.ensures.ends
