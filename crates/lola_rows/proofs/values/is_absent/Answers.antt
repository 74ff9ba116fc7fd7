use Rattle.std.proofs.Common.{◌∙◌, false}
use Rattle.lola_rows.proofs.ValueFacts.{absent-by}
use Rattle.lola_rows.proofs.values.is_absent.Goals as goal

pub returns-else-is_empty : goal.returns-else-is_empty
returns-else-is_empty c = c.eq.ensures ∙ absent-by c.args.text.now c.as_slice.result.now false c.if-is_empty.ensures c.as_slice.ensures
