use Rattle.lola_save_read.proofs.BodyForms.{no-birth, no-birth-word, no-inst}
use Rattle.lola_save_read.proofs.bodies.birth_behind.Goals as goal

pub returns-in-None : goal.returns-in-None
returns-in-None c = no-inst c.args.times c.args.form.now c.args.low c.requires c.args.body.now c.in-None.ensures

pub returns-in-None-next_word : goal.returns-in-None-next_word
returns-in-None-next_word c = no-birth-word c.args.times c.args.form.now c.args.low c.requires c.args.body.now c.in-Some.words.now c.in-Some.ensures c.in-None-next_word.ensures

pub returns-in-None-birth_word : goal.returns-in-None-birth_word
returns-in-None-birth_word c =
    no-birth c.args.times c.args.form.now c.args.low c.requires c.args.body.now c.in-Some.words.now c.in-Some.ensures c.in-Some-next_word.first.now c.in-Some-next_word.rest.now c.in-Some-next_word.ensures
    c.in-None-birth_word.ensures
