-- The entries so far were run.
use Rattle.std.proofs.Common.{take}
use Rattle.lola_monitor_run.proofs.Handed.{HasRun}
use Rattle.lola_monitor_run.proofs.entries.run_entries.Given as goal

abbrev pub invariant-loop-entry : goal.invariant-loop-entry
invariant-loop-entry g l =
    HasRun (take l.entry-index l.entries) l.fn.engine.state l.engine.state (g.S.StreamStore.seen l.engine.store) (g.S.StreamStore.remembers l.engine.store) l.fn.lines l.lines
