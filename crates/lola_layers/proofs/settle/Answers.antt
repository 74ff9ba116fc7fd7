use Rattle.std.proofs.Common.{◌<◌, ◌≤◌, ◌*◌, arith, length}
use Rattle.lola_layers.specs.Raised.{total}
use Rattle.lola_layers.proofs.LongestWalks.{reached_low}
use Rattle.lola_layers.proofs.RaiseLemmas.{total_low}
use Rattle.lola_layers.proofs.settle.Goals as goal

pub loop-smaller : goal.loop-smaller
loop-smaller c =
    let more : total c.loop.layers < total c.raise.new.layers = c.if-not-raise.ensures.raised in
    let most : total c.raise.new.layers ≤ length c.raise.new.layers * 2048 =
    total_low c.raise.new.layers (λ k. reached_low c.args.edges.now c.requires.acyclic c.requires.small k _ (c.raise.ensures.reached k)) in
    omega (arith, more, most, c.loop.auto.layers, c.raise.auto.layers)
