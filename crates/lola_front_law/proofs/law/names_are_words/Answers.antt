use Rattle.lola_front_law.proofs.PlanLines as lines
use Rattle.lola_front_law.proofs.law.names_are_words.Goals as goal

pub returns : goal.returns
returns c bytes plan p = lines.names_are_words bytes plan p
