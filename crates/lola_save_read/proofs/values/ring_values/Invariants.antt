use Rattle.lola_save_read.proofs.ValueRows.{IsRingSoFar}
use Rattle.lola_save_read.proofs.values.ring_values.Given as goal

abbrev pub invariant-loop-turn : goal.invariant-loop-turn
invariant-loop-turn l = IsRingSoFar l.kind l._turn l.bytes l.values l.left
