use Rattle.std.proofs.Common.{◌≡◌, drop}
use Rattle.lola_monitor.specs.Outcomes.{ends_of, first_failed}
use Rattle.lola_monitor.proofs.Finding.{shifted}
use Rattle.lola_monitor.proofs.ending.failed_in.Given as goal

abbrev pub invariant-loop-at : goal.invariant-loop-at
invariant-loop-at g l = first_failed (ends_of l.workers) ≡ shifted l.at (first_failed (ends_of (drop l.at l.workers)))
