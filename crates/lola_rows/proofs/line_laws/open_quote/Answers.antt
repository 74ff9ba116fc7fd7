use Rattle.lola_rows.proofs.LineFacts.{open-quote}
use Rattle.lola_rows.proofs.line_laws.open_quote.Goals as goal

pub returns : goal.returns
returns c = open-quote
