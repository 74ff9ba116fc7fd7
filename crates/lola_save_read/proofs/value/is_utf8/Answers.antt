use Rattle.std.proofs.Common.{◌∙◌}
use Rattle.lola_save_read.proofs.ValueWords.{utf8-by}
use Rattle.lola_save_read.proofs.value.is_utf8.Goals as goal

pub returns : goal.returns
returns c = c.is_ok.ensures.value ∙ utf8-by c.args.text.now c.from_utf8.result _ _ c.from_utf8.ensures.cases
