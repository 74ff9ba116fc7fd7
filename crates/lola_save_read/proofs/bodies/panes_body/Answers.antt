use Rattle.lola_save_read.proofs.BodyForms.{no-window, window-told}
use Rattle.lola_save_read.proofs.bodies.panes_body.Goals as goal

pub returns-in-None : goal.returns-in-None
returns-in-None c = no-window c.args.times c.args.kind c.args.window.now c.args.body.now c.in-None.ensures

pub returns-in-Some-behind_number : goal.returns-in-Some-behind_number
returns-in-Some-behind_number c =
    window-told c.args.times c.args.kind c.args.window.now c.args.body.now c.in-Some.words.now c.in-Some.ensures c.in-Some-behind_number.rest.now c.in-Some-behind_number.ensures c.panes.result c.panes.ensures
