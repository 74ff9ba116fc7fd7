use Rattle.std.proofs.Common.{arith}
use Rattle.lola_monitor_run.proofs.Handed.{begins, ends, goes_on, next_takeable}
use Rattle.lola_monitor_run.proofs.entries.run_entries.Goals as goal

pub loop-entry-init : goal.loop-entry-init
loop-entry-init g c = let e = c.args.engine.now in begins e.state (g.S.StreamStore.seen e.store) (g.S.StreamStore.remembers e.store) c.args.lines.now c.requires.engine c.requires.fresh

pub accept_entry-requires-clause-row : goal.accept_entry-requires-clause-row
accept_entry-requires-clause-row g c κs within =
    let l = c.loop-entry in
    next_takeable c.args.entries.now l.entry-index c.entry-item.result (omega arith) c.entry-item.is c.args.engine.now.state l.engine.state _ _ _ l.lines l.invariant c.requires.legal c.requires.rows c.requires.few

pub returns-in-Err-clause-hands : goal.returns-in-Err-clause-hands
returns-in-Err-clause-hands g c =
    let l = c.loop-entry in
    ends c.args.entries.now l.entry-index c.entry-item.result (omega arith) c.entry-item.is c.args.engine.now.state l.engine.state _ _ _ l.lines l.invariant
    c.in-Err.end c.accept_entry.new.engine.state _ _ c.accept_entry.new.lines c.in-Err.ensures.takes

pub loop-entry-preserved : goal.loop-entry-preserved
loop-entry-preserved g c =
    let l = c.loop-entry in
    goes_on c.args.entries.now l.entry-index c.entry-item.result (omega arith) c.entry-item.is c.args.engine.now.state l.engine.state _ _ _ l.lines l.invariant
    c.accept_entry.new.engine.state _ _ c.accept_entry.new.lines c.in-Ok.ensures.engine c.in-Ok.ensures.setting (c.in-Ok.ensures.takes _ l.invariant.stands)
