use Rattle.std.proofs.Common.{sym}
use Rattle.lola_report.proofs.Joined.{no_text_unquoted}
use Rattle.lola_report.proofs.trace.is_quoted.Goals as goal

pub returns-in_default : goal.returns-in_default
returns-in_default c = sym (no_text_unquoted c.args.field.now c.in_default.not-Text)
