use Rattle.std.proofs.Common.{refl, slice_get}
use Rattle.lola_model.specs.Store.{target_of}
use Rattle.lola_instances.specs.Streams.{slot_at}
use Rattle.lola_instances.proofs.Remembered.{panes_are_of, panes_stand}
use Rattle.lola_instances.proofs.law.panes_stand_for_values.Goals as goal

pub returns-clause-stand : goal.returns-clause-stand
returns-clause-stand c = λ names w i values p e h.
    let s = c.args._store.now in
    let n = target_of (slice_get s.windows w) in
    panes_stand s names n i values p (slot_at s.streams.items n i) (slice_get s.places.items w) refl e h

pub returns-clause-window : goal.returns-clause-window
returns-clause-window c = λ w i v z p f g e. let a = panes_are_of c.args._store.now w i v z p f g e in (a.aggregation, a.pane, a.count)
