use Rattle.std.proofs.Common.{◌∙◌, arith}
use Rattle.lola_instances.proofs.Asking.{count_is}
use Rattle.lola_instances.proofs.Dues.{places_shown}
use Rattle.lola_instances.proofs.reading.list_due.Goals as goal

pub list_due-requires-clause-few : goal.list_due-requires-clause-few
list_due-requires-clause-few c = (c.args.s.now.right c.args.stream c.lives_of.result.now c.lives_of.ensures).few

pub list_due-requires-clause-room : goal.list_due-requires-clause-room
list_due-requires-clause-room c =
    omega (arith, c.requires.room, count_is c.args.s.now.step c.args.s.now.streams.items c.args.stream c.lives_of.result.now c.lives_of.ensures)

pub returns-clause-places : goal.returns-clause-places
returns-clause-places c = c.list_due.ensures.places ∙ places_shown c.args.s.now c.args.stream c.args.time c.lives_of.result.now c.lives_of.ensures
