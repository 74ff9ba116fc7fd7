use Rattle.lola_save_text.proofs.Restoring.{restored-stands}
use Rattle.lola_save_text.proofs.restored.restored_stands.Goals as goal

pub returns : goal.returns
returns g c state names h =
    restored-stands c.args._plan.now c.requires.accepted c.requires.texts state names (g.S.StreamStore.remembers c.args._store.now) (g.S.StreamStore.seen c.args._store.now) h
