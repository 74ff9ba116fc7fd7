use Rattle.std.proofs.Common.{◌≡◌, drop}
use Rattle.lola_expr.proofs.machine.let_go.Given as goal

abbrev pub invariant-loop-left : goal.invariant-loop-left
invariant-loop-left l = drop l.left l.stack ≡ drop l.fn.count l.initial.stack

abbrev pub decreases-loop-left : goal.decreases-loop-left
decreases-loop-left l = l.left
