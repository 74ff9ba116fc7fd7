-- By what became of the spawn.
use Rattle.std.proofs.Common.{ap, ◌∙◌, length, true, false}
use Rattle.lola_model.specs.Spawning.{has_room}
use Rattle.lola_model.specs.Store.{after_poison_stream, instances_seen, place_of}
use Rattle.lola_step.proofs.Births.{room_below}
use Rattle.lola_step.proofs.spawns.take_named.Goals as goal

pub returns-in-Born-clause-seen : goal.returns-in-Born-clause-seen
returns-in-Born-clause-seen g c =
    let s = g.S.StreamStore.seen c.args.store.now in
    let n = c.args.stream in
    let p = c.args.params in
    record { params = p; born = has_room (place_of s n p) (length (instances_seen s n)); bad = false; room = room_below (place_of s n p) (length (instances_seen s n)); is = c.in-Born.ensures.seen }

pub returns-in-Living-clause-seen : goal.returns-in-Living-clause-seen
returns-in-Living-clause-seen g c =
    let s = g.S.StreamStore.seen c.args.store.now in
    let n = c.args.stream in
    let p = c.args.params in
    record { params = p; born = has_room (place_of s n p) (length (instances_seen s n)); bad = false; room = room_below (place_of s n p) (length (instances_seen s n)); is = c.in-Living.ensures.seen }

pub returns-in-TooMany-clause-seen : goal.returns-in-TooMany-clause-seen
returns-in-TooMany-clause-seen g c =
    let s = g.S.StreamStore.seen c.args.store.now in
    let n = c.args.stream in
    let p = c.args.params in
    record {
      params = p;
      born = has_room (place_of s n p) (length (instances_seen s n));
      bad = true;
      room = room_below (place_of s n p) (length (instances_seen s n));
      is = c.poison_stream.ensures.seen ∙ ap (λ t. after_poison_stream t n) c.in-TooMany.ensures.seen;
    }
