-- A try goes down the parts of an expression. Between an expression and its parts lies at most one call more.
use Rattle.std.proofs.Common.{◌*◌, ◌+◌}
use Rattle.lola_replay_table.proofs.Sizes.{size_of, size_all}
use Rattle.lola_replay_table.proofs.attempt.+attempt.Given as goal

abbrev pub decreases-attempt : goal.decreases-attempt
decreases-attempt l = 2 * size_of l.expr.now

abbrev pub decreases-or_default : goal.decreases-or_default
decreases-or_default l = 2 * (size_of l.a.now + size_of l.b.now) + 1

abbrev pub decreases-with_prefix : goal.decreases-with_prefix
decreases-with_prefix l = 2 * size_of l.a.now + 1

abbrev pub decreases-with_operator : goal.decreases-with_operator
decreases-with_operator l = 2 * (size_of l.a.now + size_of l.b.now) + 1

abbrev pub decreases-choice : goal.decreases-choice
decreases-choice l = 2 * (size_of l.test.now + (size_of l.a.now + size_of l.b.now)) + 1

abbrev pub decreases-access : goal.decreases-access
decreases-access l = 2 * size_all l.args.now + 1

abbrev pub decreases-window_access : goal.decreases-window_access
decreases-window_access l = 2 * size_all l.args.now + 1

abbrev pub decreases-gather : goal.decreases-gather
decreases-gather l = 2 * size_all l.args.now
