use Rattle.std.proofs.Common.{◌≡◌, ◌++◌, drop}
use Rattle.lola_text.specs.Needed.{texts_in}
use Rattle.lola_instances_one.proofs.texts.add_ring.Given as goal

abbrev pub invariant-loop-i : goal.invariant-loop-i
invariant-loop-i l = l.into ++ texts_in (drop l.i l.ring.values) ≡ l.fn.into ++ texts_in l.ring.values
