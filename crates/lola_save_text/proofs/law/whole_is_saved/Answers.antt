use Rattle.lola_save_text.specs.Forms.{forms_of}
use Rattle.lola_save_text.proofs.Few.{are-few}
use Rattle.lola_save_text.proofs.Saved.{saved-run}
use Rattle.lola_save_text.proofs.Whole.{whole-state}
use Rattle.lola_save_text.proofs.law.whole_is_saved.Goals as goal

pub returns-clause-sound : goal.returns-clause-sound
returns-clause-sound c = whole-state (forms_of c.args._plan.now)

pub returns-clause-complete : goal.returns-clause-complete
returns-clause-complete c = saved-run (forms_of c.args._plan.now) are-few
