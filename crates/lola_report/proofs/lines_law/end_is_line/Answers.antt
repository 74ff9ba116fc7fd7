use Rattle.lola_report.proofs.LineForms.{end_line}
use Rattle.lola_report.proofs.lines_law.end_is_line.Goals as goal

pub returns : goal.returns
returns c = end_line c.args._line.now c.requires
