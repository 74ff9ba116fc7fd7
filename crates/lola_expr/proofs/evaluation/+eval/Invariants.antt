-- An evaluation goes down the parts of an expression. Between an expression and its parts lie at most two calls more.
use Rattle.std.proofs.Common.{◌*◌, ◌+◌}
use Rattle.lola_expr.proofs.Sizes.{size_of, size_all}
use Rattle.lola_expr.proofs.evaluation.+eval.Given as goal

abbrev pub decreases-evaluate : goal.decreases-evaluate
decreases-evaluate g l = 3 * size_of l.expr.now

abbrev pub decreases-or_default : goal.decreases-or_default
decreases-or_default g l = 3 * (size_of l.a.now + size_of l.b.now) + 1

abbrev pub decreases-with_prefix : goal.decreases-with_prefix
decreases-with_prefix g l = 3 * size_of l.a.now + 1

abbrev pub decreases-with_operator : goal.decreases-with_operator
decreases-with_operator g l = 3 * (size_of l.a.now + size_of l.b.now) + 1

abbrev pub decreases-choice : goal.decreases-choice
decreases-choice g l = 3 * (size_of l.test.now + (size_of l.a.now + size_of l.b.now)) + 1

abbrev pub decreases-access : goal.decreases-access
decreases-access g l = 3 * size_all l.args.now + 2

abbrev pub decreases-access_of : goal.decreases-access_of
decreases-access_of g l = 3 * size_all l.args.now + 1

abbrev pub decreases-window_access : goal.decreases-window_access
decreases-window_access g l = 3 * size_all l.args.now + 1

abbrev pub decreases-gather : goal.decreases-gather
decreases-gather g l = 3 * size_all l.args.now
