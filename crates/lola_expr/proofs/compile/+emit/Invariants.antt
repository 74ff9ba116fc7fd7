-- Code is made down the parts of an expression. Between an expression and its parts lie at most two calls more.
use Rattle.std.proofs.Common.{◌*◌, ◌+◌}
use Rattle.lola_expr.proofs.Sizes.{size_of, size_all}
use Rattle.lola_expr.proofs.compile.+emit.Given as goal

abbrev pub decreases-emit : goal.decreases-emit
decreases-emit l = 3 * size_of l.e.now

abbrev pub decreases-emit_default : goal.decreases-emit_default
decreases-emit_default l = 3 * (size_of l.a.now + size_of l.b.now) + 1

abbrev pub decreases-emit_operator : goal.decreases-emit_operator
decreases-emit_operator l = 3 * (size_of l.a.now + size_of l.b.now) + 2

abbrev pub decreases-emit_operands : goal.decreases-emit_operands
decreases-emit_operands l = 3 * (size_of l.a.now + size_of l.b.now) + 1

abbrev pub decreases-emit_choice : goal.decreases-emit_choice
decreases-emit_choice l = 3 * (size_of l.test.now + (size_of l.a.now + size_of l.b.now)) + 1

abbrev pub decreases-emit_arguments : goal.decreases-emit_arguments
decreases-emit_arguments l = 3 * size_all l.args.now
