use Rattle.std.proofs.Common.{refl}
use Rattle.lola_layers.proofs.RaiseLemmas.{raised_high, reached_high, not_below}
use Rattle.lola_layers.proofs.raise_one.Goals as goal

pub returns-clause-raised : goal.returns-clause-raised
returns-clause-raised c =
    rw c.above.ensures (raised_high c.args.edge.now c.args.layers.now c.requires.from (not_below _ _ c.is_below.result c.if-is_below.false c.is_below.ensures.1))

pub returns-clause-reached : goal.returns-clause-reached
returns-clause-reached c edges k h = rw c.above.ensures (reached_high c.args.edge.now c.args.layers.now edges k (c.if-not-is_within_step.ensures.0 refl) c.requires.from h)
