use Rattle.std.proofs.Common.{List, ◌++◌, drop}
use Rattle.lola_model.specs.declared.expr.Expr.{Expr}
use Rattle.lola_types.specs.Around.{setting}
use Rattle.lola_types.specs.Filled.{FilledWith}
use Rattle.lola_types.proofs.full.fill_with.Given as goal

abbrev pub invariant-loop-number : goal.invariant-loop-number
invariant-loop-number l = (rest : List Expr) → FilledWith (setting l.around) (drop l.number l.wants) (drop l.number l.exprs) rest → FilledWith (setting l.around) l.wants l.exprs (l.full ++ rest)
