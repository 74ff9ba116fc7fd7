use Rattle.lola_rows.proofs.CleanFacts.{fields-of-line-within}
use Rattle.lola_rows.proofs.line_laws.fields_of_one_line.Goals as goal

pub returns : goal.returns
returns c = fields-of-line-within
