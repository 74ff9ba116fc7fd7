use Rattle.lola_report.proofs.ReadBack.{one-entry}
use Rattle.lola_report.proofs.law.one_entry.Goals as goal

pub returns : goal.returns
returns c = one-entry c.args._plan.now
