-- What the bounds ask for follows from names, kinds and pacings.
use Rattle.lola_front.proofs.OffsetLemmas.{bounds_offsets}
use Rattle.lola_front.proofs.PaneLemmas.{are_paned}
use Rattle.lola_front.proofs.compiling.completed.Goals as goal

pub bounds-requires-clause-small : goal.bounds-requires-clause-small
bounds-requires-clause-small c = bounds_offsets c.args.spec.now c.requires.named

pub bounds-requires-clause-paned : goal.bounds-requires-clause-paned
bounds-requires-clause-paned c = are_paned c.each_window_is_paced.ensures c.args.spec.now c.in_ok-pacings.pacings c.requires.named c.requires.typed c.in_ok-pacings.ensures
