use Rattle.lola_front_law.proofs.PlanLines as lines
use Rattle.lola_front_law.proofs.law.verdicts_are_lines.Goals as goal

pub returns : goal.returns
returns c bytes plan p = lines.has_one_lines bytes plan p
