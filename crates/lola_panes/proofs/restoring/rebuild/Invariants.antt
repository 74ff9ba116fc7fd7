use Rattle.std.proofs.Common.{◌≡◌, ◌+◌, [], drop}
use Rattle.lola_panes.specs.Restored.{restored_best}
use Rattle.lola_panes.proofs.restoring.rebuild.Given as goal

abbrev pub invariant-loop-i : goal.invariant-loop-i
invariant-loop-i l =
    (l.best.capacity ≡ l.fn.best.capacity)
    × (restored_best l.best.capacity l.aggregation (l.first + l.i) (drop l.i l.partials) l.best.items ≡ restored_best l.best.capacity l.aggregation l.first l.partials [])
