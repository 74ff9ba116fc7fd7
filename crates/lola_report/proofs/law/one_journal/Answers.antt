use Rattle.lola_report.proofs.Texts.{one-journal}
use Rattle.lola_report.proofs.law.one_journal.Goals as goal

pub returns : goal.returns
returns c = one-journal c.args._plan.now
