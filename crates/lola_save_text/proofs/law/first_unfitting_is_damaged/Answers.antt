use Rattle.lola_save_text.proofs.AcceptedForms.{accepted-storable}
use Rattle.lola_save_text.proofs.Damaged.{refused-is-damaged}
use Rattle.lola_save_text.proofs.law.first_unfitting_is_damaged.Goals as goal

pub returns : goal.returns
returns c = λ spec. refused-is-damaged spec c.args._plan.now (accepted-storable c.args._plan.now c.requires)
