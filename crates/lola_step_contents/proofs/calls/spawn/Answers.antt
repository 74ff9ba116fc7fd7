-- The end of a spawn, and the lift of the clauses of `spawn`.
use Rattle.std.proofs.Common.{sym, subst, ◌∙◌, length}
use Rattle.lola_value.specs.Naming.{read_params}
use Rattle.lola_model.specs.Spawning.{has_room}
use Rattle.lola_model.specs.Store.{Stands, after_spawn, instances_seen, place_of}
use Rattle.lola_step_contents.specs.Changed.{after_spawning}
use Rattle.lola_step_contents.proofs.SpawnContents.{spawn_ends, stands_spawned}
use Rattle.lola_step_contents.proofs.calls.spawn.Goals as goal

pub returns-clause-end : goal.returns-clause-end
returns-clause-end g c names content naming held stands =
    c.spawn.ensures.end
    ∙ spawn_ends names naming (g.S.StreamStore.remembers c.args.store.now) c.args.stream c.args.params held (g.S.StreamStore.seen c.args.store.now) content stands

pub returns-clause-stands : goal.returns-clause-stands
returns-clause-stands g c names content held stands =
    let old = g.S.StreamStore.remembers c.args.store.now in
    let new = g.S.StreamStore.remembers c.spawn.new.self in
    let shown = g.S.StreamStore.seen c.args.store.now in
    let place = place_of shown c.args.stream c.args.params in
    let count = length (instances_seen shown c.args.stream) in
    subst (λ s. Stands names new s (after_spawning c.spawn.result content c.args.stream (read_params names c.args.params)))
    {x = after_spawn shown c.args.stream c.args.params (has_room place count)} (sym c.spawn.ensures.seen)
    (stands_spawned names old new (c.spawn.ensures.past names) c.args.stream c.args.params held shown content stands
    place count c.spawn.result c.spawn.ensures.end (c.spawn.ensures.new names))
