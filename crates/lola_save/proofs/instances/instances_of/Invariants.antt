-- The instances so far.
use Rattle.lola_model.specs.Store.{instances_seen}
use Rattle.lola_instances.specs.Stores.{bounded_remembers, bounded_seen}
use Rattle.lola_save.proofs.Lives.{AreTakenTo}
use Rattle.lola_save.proofs.instances.instances_of.Given as goal

abbrev pub invariant-loop-index : goal.invariant-loop-index
invariant-loop-index l =
    AreTakenTo (bounded_seen l.store) (bounded_remembers l.store) l.engine.state.texts.held l.form l.stream (instances_seen (bounded_seen l.store) l.stream) l.index l.instances
