use Rattle.std.proofs.Common.{◌∙◌}
use Rattle.lola_rows.proofs.RowFacts.{utf8-by}
use Rattle.lola_rows.proofs.checks.is_text.Goals as goal

pub returns : goal.returns
returns c = c.is_ok.ensures.value ∙ utf8-by c.args.text.now c.from_utf8.result _ _ c.from_utf8.ensures.cases
