use Rattle.lola_rows.proofs.LineFacts.{plain-line}
use Rattle.lola_rows.proofs.line_laws.line_without_quotes.Goals as goal

pub returns : goal.returns
returns c = plain-line
