use Rattle.std.proofs.Common.{◌≡◌}
use Rattle.lola_panes.proofs.Refilling.{IsRefilled}
use Rattle.lola_panes.proofs.restoring.refill.Given as goal

abbrev pub invariant-loop-i : goal.invariant-loop-i
invariant-loop-i l = (l.ring.capacity ≡ l.fn.ring.capacity) × IsRefilled l.aggregation l.first l.before l.count l.total l.i l.ring.items l.partials
