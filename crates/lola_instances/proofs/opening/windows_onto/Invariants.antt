use Rattle.std.proofs.Common.{◌≡◌, ◌++◌, drop}
use Rattle.lola_instances.specs.Opening.{onto}
use Rattle.lola_instances.proofs.opening.windows_onto.Given as goal

abbrev pub invariant-loop-i : goal.invariant-loop-i
invariant-loop-i l = l.made.items ++ onto l.stream l.kind (drop l.i l.windows) (drop l.i l.sizes) ≡ onto l.stream l.kind l.windows l.sizes
