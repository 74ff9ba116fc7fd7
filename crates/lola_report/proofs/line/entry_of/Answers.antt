use Rattle.lola_report.proofs.Lines.{no-line}
use Rattle.lola_report.proofs.line.entry_of.Goals as goal

pub returns-in-None : goal.returns-in-None
returns-in-None c plan inputs = no-line plan c.args.line.now c.in-None.ensures
