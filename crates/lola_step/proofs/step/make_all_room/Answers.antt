-- Where no stream has a spawn clause, the room is there already.
use Rattle.std.proofs.Common.{◌≡◌, true, false}
use Rattle.lola_step.proofs.Counts.{room_is_there}
use Rattle.lola_step.proofs.step.make_all_room.Goals as goal

pub returns-in_err-make_room-clause-never : goal.returns-in_err-make_room-clause-never
returns-in_err-make_room-clause-never g c bounded plain =
    let made : false ≡ true =
    c.in_err-make_room.ensures.enough
    (room_is_there c.args.plan.now (g.S.StreamStore.seen c.args.store.now) c.args.scratch.now c.requires.of plain c.requires.made) in
    absurd (cc)
