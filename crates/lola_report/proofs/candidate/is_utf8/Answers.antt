use Rattle.std.proofs.Common.{◌∙◌}
use Rattle.lola_report.proofs.Parts.{utf8-by}
use Rattle.lola_report.proofs.candidate.is_utf8.Goals as goal

pub returns : goal.returns
returns c = c.is_ok.ensures.value ∙ utf8-by c.args.text.now c.from_utf8.result _ _ c.from_utf8.ensures.cases
