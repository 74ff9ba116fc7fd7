use Rattle.std.proofs.Common.{slice_get}
use Rattle.lola_report.proofs.LineForms.{verdict_line}
use Rattle.lola_report.proofs.lines_law.verdict_is_line.Goals as goal

pub returns : goal.returns
returns c = verdict_line (slice_get c.args._plan.now.spec.streams c.args._stream) c.args._time c.args._params.now c.args._value.now c.requires.shown c.requires.name
