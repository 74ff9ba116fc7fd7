use Rattle.lola_front_law.proofs.RestLemmas as rest
use Rattle.lola_front_law.proofs.law.plans_are_one.Goals as goal

pub returns : goal.returns
returns c p q x y spec pacings = rest.one_plan p q x y spec pacings
