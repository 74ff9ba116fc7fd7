use Rattle.std.proofs.Common.{slice_get}
use Rattle.lola_report.proofs.LineForms.{verdict_alone}
use Rattle.lola_report.proofs.lines_law.one_verdict.Goals as goal

pub returns : goal.returns
returns c = verdict_alone (slice_get c.args._plan.now.spec.streams c.args._stream) c.args._time c.args._params.now c.args._value.now c.requires
