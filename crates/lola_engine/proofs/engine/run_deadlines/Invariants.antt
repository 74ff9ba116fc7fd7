-- What was run so far.
use Rattle.std.proofs.Common.{◌-◌}
use Rattle.lola_engine.proofs.Loop.{IsOnWay}
use Rattle.lola_engine.proofs.engine.run_deadlines.Given as goal

abbrev pub invariant-loop-due : goal.invariant-loop-due
invariant-loop-due g l =
    IsOnWay l.start l.limit l.initial.from l.initial.state (g.S.StreamStore.remembers l.initial.store) (g.S.StreamStore.seen l.initial.store) l.initial.lines
    l.from l.state (g.S.StreamStore.remembers l.store) (g.S.StreamStore.seen l.store) l.lines

abbrev pub decreases-loop-due : goal.decreases-loop-due
decreases-loop-due g l = l.limit - l.from
