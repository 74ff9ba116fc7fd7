use Rattle.lola_save_read.proofs.BodyForms.{no-ring, ring-told}
use Rattle.lola_save_read.proofs.bodies.ring_body.Goals as goal

pub returns-in-None : goal.returns-in-None
returns-in-None c = no-ring c.args.times c.args.form.now c.args.body.now c.in-None.ensures

pub returns-in-Some : goal.returns-in-Some
returns-in-Some c = ring-told c.args.times c.args.form.now c.args.body.now c.in-Some.words.now c.in-Some.ensures c.ring_values.result (rw c.most_values.ensures at c.ring_values.ensures)
