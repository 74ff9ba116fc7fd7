use Rattle.std.proofs.Common.{append_assoc}
use Rattle.lola_report.proofs.end.malformed_line.Goals as goal

pub returns-clause-ok : goal.returns-clause-ok
returns-clause-ok c = simp append_assoc (simp (c.from.ensures, c.malformed_number.ensures, c.as_bytes.ensures.value, c.malformed_name.ensures) at c.append_all.ensures.ok)
