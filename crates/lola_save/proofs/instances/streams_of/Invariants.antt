-- The streams so far.
use Rattle.lola_instances.specs.Stores.{bounded_remembers, bounded_seen}
use Rattle.lola_save.proofs.Lives.{AreStreamsTo}
use Rattle.lola_save.proofs.instances.streams_of.Given as goal

abbrev pub invariant-loop-number : goal.invariant-loop-number
invariant-loop-number l = AreStreamsTo (bounded_seen l.store) (bounded_remembers l.store) l.engine.state.texts.held l.forms (bounded_seen l.store).streams l.number l.streams
