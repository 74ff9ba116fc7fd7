use Rattle.std.proofs.Common.{◌∙◌}
use Rattle.memchr.specs.Find.{is_byte2}
use Rattle.lola_report.proofs.Marks.{found-any}
use Rattle.lola_report.proofs.trace.has_line_end.Goals as goal

pub returns : goal.returns
returns c = c.is_some.ensures ∙ found-any (is_byte2 13 10) c.args.text.now c.memchr2.result c.memchr2.ensures
