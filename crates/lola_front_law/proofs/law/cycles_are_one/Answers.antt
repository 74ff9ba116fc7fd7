use Rattle.lola_front_law.proofs.RestLemmas as rest
use Rattle.lola_front_law.proofs.law.cycles_are_one.Goals as goal

pub returns : goal.returns
returns c full = rest.has_one_cycle full
