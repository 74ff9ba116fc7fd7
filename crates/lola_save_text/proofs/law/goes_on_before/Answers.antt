use Rattle.lola_save_text.proofs.Damaged.{goes-on-before}
use Rattle.lola_save_text.proofs.law.goes_on_before.Goals as goal

pub returns : goal.returns
returns c = λ spec. goes-on-before spec c.args._plan.now
