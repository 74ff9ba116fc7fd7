use Rattle.lola_merge.specs.Interleaving.{AreOf}
use Rattle.lola_merge_tests.proofs.schedules.rows.Given as goal

abbrev pub invariant-loop-i : goal.invariant-loop-i
invariant-loop-i l = AreOf l.source l.rows.items
