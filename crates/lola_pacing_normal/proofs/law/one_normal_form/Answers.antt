use Rattle.lola_pacing_normal.proofs.FormulaLemmas.{one_normal_form_lem}
use Rattle.lola_pacing_normal.proofs.law.one_normal_form.Goals as goal

pub returns : goal.returns
returns c = one_normal_form_lem
