use Rattle.std.proofs.Common.{◌≡◌, ap, arith, length, rules}
use Rattle.lola_model.specs.Store.{instances_seen}
use Rattle.lola_step.specs.Notes.{places_paced, places_from}
use Rattle.lola_step.proofs.Places.{length_places}
use Rattle.lola_step.proofs.evals.add_paced.Goals as goal

pub add_all-requires : goal.add_all-requires
add_all-requires g c =
    let shown = g.S.StreamStore.seen c.args.store.now in
    let same : places_paced c.args.pacing.now c.args.moment.now shown c.args.stream ≡ places_from 0 (length (instances_seen shown c.args.stream)) = search rules in
    omega (arith, c.requires.tasks_room, ap length same, length_places 0 (length (instances_seen shown c.args.stream)), c.instances.ensures)
