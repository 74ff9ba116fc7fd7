-- What was read so far and what is left are all values.
use Rattle.lola_value.specs.Naming.{read}
use Rattle.lola_instances.specs.Stores.{values_kept}
use Rattle.lola_save.proofs.Backwards.{IsReadTo}
use Rattle.lola_save.proofs.values.ring_of.Given as goal

abbrev pub invariant-loop-left : goal.invariant-loop-left
invariant-loop-left l = IsReadTo (read l.engine.state.texts.held) (values_kept l.store l.stream l.index) l.left l.ring

abbrev pub decreases-loop-left : goal.decreases-loop-left
decreases-loop-left l = l.left
