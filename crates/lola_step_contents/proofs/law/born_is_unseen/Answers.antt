-- The law, at this store.
use Rattle.lola_step_contents.proofs.Births.{stands_unborn}
use Rattle.lola_step_contents.proofs.law.born_is_unseen.Goals as goal

pub returns : goal.returns
returns g c names content other same stands =
    stands_unborn names (g.S.StreamStore.remembers c.args._store.now) (g.S.StreamStore.seen c.args._store.now) content other same stands
