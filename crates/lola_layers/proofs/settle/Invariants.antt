use Rattle.std.proofs.Common.{◌*◌, ◌-◌, length}
use Rattle.lola_layers.specs.Raised.{AreReached, total}
use Rattle.lola_layers.proofs.settle.Given as goal

abbrev pub invariant-loop : goal.invariant-loop
invariant-loop l = AreReached l.edges l.layers

abbrev pub decreases-loop : goal.decreases-loop
decreases-loop l = length l.layers * 2048 - total l.layers
