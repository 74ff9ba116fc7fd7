use Rattle.lola_store.specs.Populations.{instance_at}
use Rattle.lola_instances.specs.Phases.{time_in}
use Rattle.lola_store.proofs.Asking.{owned}
use Rattle.lola_instances.proofs.Phases.{new_is_off}
use Rattle.lola_store.proofs.Beginning.{started_at}
use Rattle.lola_store.proofs.begin.start_at.Goals as goal

pub returns-clause-past : goal.returns-clause-past
returns-clause-past c = λ names n i values h.
    let s = c.args.s.now in
    started_at (time_in s.phase) s.step c.args.start names (instance_at s.streams.items n i) values (λ x e. (owned s n i x e).right.before (new_is_off s.phase c.requires)) h
