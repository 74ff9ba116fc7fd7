use Rattle.lola_step_contents.proofs.Begin.{begins}
use Rattle.lola_step_contents.proofs.stages.steps_begin.Goals as goal

pub returns : goal.returns
returns g c = λ start rows step settled. begins c.args._plan.now start rows step settled (g.S.StreamStore.remembers c.args._store.now) (g.S.StreamStore.seen c.args._store.now)
