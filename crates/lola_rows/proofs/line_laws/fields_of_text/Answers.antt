use Rattle.lola_rows.proofs.Utf8Facts.{fields-are-texts}
use Rattle.lola_rows.proofs.line_laws.fields_of_text.Goals as goal

pub returns : goal.returns
returns c = fields-are-texts
