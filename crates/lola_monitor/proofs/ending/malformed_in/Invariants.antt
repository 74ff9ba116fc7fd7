use Rattle.std.proofs.Common.{◌≡◌, drop, map}
use Rattle.lola_monitor.specs.Monitor.{first_malformed}
use Rattle.lola_monitor.specs.Outcomes.{ends_of, malformed_by, source_end}
use Rattle.lola_monitor.proofs.Finding.{malformed_from}
use Rattle.lola_monitor.proofs.ending.malformed_in.Given as goal

abbrev pub invariant-loop-at : goal.invariant-loop-at
invariant-loop-at g l = malformed_by (first_malformed (map source_end (ends_of l.workers))) ≡ malformed_from l.at (drop l.at l.workers)
