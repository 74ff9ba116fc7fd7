use Rattle.std.proofs.Common.{take}
use Rattle.lola_layers.specs.Raised.{AreReached, IsRaised}
use Rattle.lola_layers.proofs.raise.Given as goal

abbrev pub invariant-loop-edge : goal.invariant-loop-edge
invariant-loop-edge l = record {
  raised : IsRaised (take l.edge-index l.edges) l.initial.layers l.layers l.raised;
  reached : AreReached l.edges l.layers;
}
