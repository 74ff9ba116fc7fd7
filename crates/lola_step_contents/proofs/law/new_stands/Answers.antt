-- The law, at this plan and this store.
use Rattle.std.proofs.Common.{sym, subst, [], length, ◌<◌}
use Rattle.lola_model.specs.Runs.{content_after}
use Rattle.lola_model.specs.Standing.{StandsBetween}
use Rattle.lola_model.specs.Store.{instances_seen}
use Rattle.lola_step_contents.proofs.Beginnings.{stands_new}
use Rattle.lola_step_contents.proofs.law.new_stands.Goals as goal

pub returns : goal.returns
returns g c names start shows fresh =
    let remembers = g.S.StreamStore.remembers c.args._store.now in
    subst (λ s. StandsBetween names remembers s (content_after c.args._plan.now start [])) (sym shows)
    (stands_new names remembers c.args._plan.now start (λ n i lt. fresh n i (subst (λ s. i < length (instances_seen s n)) (sym shows) lt)))
