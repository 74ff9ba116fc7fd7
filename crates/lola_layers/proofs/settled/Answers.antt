use Rattle.lola_layers.proofs.LongestWalks.{are_layers}
use Rattle.lola_layers.proofs.RaiseLemmas.{reached_none}
use Rattle.lola_layers.proofs.settled.Goals as goal

pub settle-requires-clause-reached : goal.settle-requires-clause-reached
settle-requires-clause-reached c = rw c.requires.room (reached_none c.args.edges.now _)

pub returns-clause-each : goal.returns-clause-each
returns-clause-each c = rw c.in_ok-layers.ensures (are_layers c.args.edges.now c.settle.new.layers c.settle.ensures.falling c.settle.ensures.reached)
