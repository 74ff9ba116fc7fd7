use Rattle.lola_save_text.specs.Forms.{forms_of}
use Rattle.lola_save_text.proofs.AcceptedForms.{accepted-storable}
use Rattle.lola_save_text.proofs.Fronts.{accepted-begins, begins-accepted}
use Rattle.lola_save_text.proofs.law.fitting_begins.Goals as goal

pub returns-clause-sound : goal.returns-clause-sound
returns-clause-sound c = λ ls. accepted-begins (forms_of c.args._plan.now) ls (accepted-storable c.args._plan.now c.requires)

pub returns-clause-complete : goal.returns-clause-complete
returns-clause-complete c = begins-accepted (forms_of c.args._plan.now)
