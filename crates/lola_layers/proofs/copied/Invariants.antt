use Rattle.std.proofs.Common.{◌≡◌, take}
use Rattle.lola_layers.proofs.copied.Given as goal

abbrev pub invariant-loop-layer : goal.invariant-loop-layer
invariant-loop-layer l = l.copy ≡ take l.layer-index l.layers
