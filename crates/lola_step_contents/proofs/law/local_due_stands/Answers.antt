-- The law, at this plan and this store.
use Rattle.lola_step_contents.proofs.LocalDues.{local_due}
use Rattle.lola_step_contents.proofs.law.local_due_stands.Goals as goal

pub returns : goal.returns
returns g c names start rows stands =
    local_due c.args._plan.now c.requires.paced names (g.S.StreamStore.remembers c.args._store.now) (g.S.StreamStore.seen c.args._store.now) c.requires.layout start rows stands
