use Rattle.lola_report.proofs.Texts.{one-bad-line}
use Rattle.lola_report.proofs.law.one_bad_line.Goals as goal

pub returns : goal.returns
returns c = one-bad-line c.args._plan.now
