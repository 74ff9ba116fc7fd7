use Rattle.std.proofs.Common.{refl}
use Rattle.lola_names.proofs.expressions.literal.Goals as goal

pub returns-clause-literal : goal.returns-clause-literal
returns-clause-literal c = λ texts windows b. (refl, c.in_ok-v.ensures.value texts windows b)
