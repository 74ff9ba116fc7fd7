use Rattle.lola_names.proofs.Growth.{grows_then}
use Rattle.lola_names.proofs.clauses.body_of.Goals as goal

pub returns-clause-grown : goal.returns-clause-grown
returns-clause-grown c = grows_then _ _ _ _ _ _ _ c.in_ok-condition.ensures.grown c.in_ok-parts.ensures.grown
