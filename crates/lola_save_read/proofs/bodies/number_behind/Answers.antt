use Rattle.lola_save_read.proofs.BodyForms.{last-told, no-numbers}
use Rattle.lola_save_read.proofs.bodies.number_behind.Goals as goal

pub returns-in-None-behind_number : goal.returns-in-None-behind_number
returns-in-None-behind_number c = no-numbers c.args.name.now c.args.number c.args.body.now c.requires c.in-Some.numbers.now c.in-Some.ensures c.in-None-behind_number.ensures

pub returns-in-Some-behind_number : goal.returns-in-Some-behind_number
returns-in-Some-behind_number c =
    last-told c.args.name.now c.args.number c.args.body.now c.requires c.in-Some.numbers.now c.in-Some.ensures c.in-Some-behind_number.rest.now c.in-Some-behind_number.ensures c.last_number.result c.last_number.ensures
