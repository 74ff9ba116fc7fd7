use Rattle.lola_layers.proofs.layers.Goals as goal

pub settled-requires-clause-acyclic : goal.settled-requires-clause-acyclic
settled-requires-clause-acyclic c = rw c.as_slice-edges.ensures c.requires.acyclic

pub returns-clause-each : goal.returns-clause-each
returns-clause-each c = rw (← c.as_slice-edges.ensures) c.settled.ensures.each
