use Rattle.lola_save_read.proofs.PaneRows.{ArePartsSoFar}
use Rattle.lola_save_read.proofs.panes.partials.Given as goal

abbrev pub invariant-loop-turn : goal.invariant-loop-turn
invariant-loop-turn l = ArePartsSoFar l.how l.kind l._turn l.steps l.bytes l.partials l.counts l.totals l.left
