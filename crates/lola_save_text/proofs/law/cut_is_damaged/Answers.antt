use Rattle.lola_save_text.proofs.AcceptedForms.{accepted-storable}
use Rattle.lola_save_text.proofs.CutTexts.{cut-is-damaged}
use Rattle.lola_save_text.proofs.law.cut_is_damaged.Goals as goal

pub returns : goal.returns
returns c = λ spec. cut-is-damaged spec c.args._plan.now (accepted-storable c.args._plan.now c.requires)
