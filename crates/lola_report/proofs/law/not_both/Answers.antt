use Rattle.lola_report.proofs.Texts.{not-both}
use Rattle.lola_report.proofs.law.not_both.Goals as goal

pub returns : goal.returns
returns c = not-both c.args._plan.now
