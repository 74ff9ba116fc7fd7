use Rattle.lola_report.proofs.LineForms.{entry_line}
use Rattle.lola_report.proofs.lines_law.entry_is_line.Goals as goal

pub returns : goal.returns
returns c = entry_line c.args._entry.now c.requires
