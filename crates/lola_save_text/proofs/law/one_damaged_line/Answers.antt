use Rattle.lola_save_text.proofs.Damaged.{one-damaged}
use Rattle.lola_save_text.proofs.law.one_damaged_line.Goals as goal

pub returns : goal.returns
returns c = λ spec. one-damaged spec c.args._plan.now
