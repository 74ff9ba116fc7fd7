use Rattle.std.proofs.Common.{◌≡◌, ℕ, ◌<◌, ◌≤◌, length}
use Rattle.lola_parser.specs.declared.pending.Pending.TheVariants as p
use Rattle.lola_parser.specs.Parts.{left_by, left_by_all}
use Rattle.lola_parser.proofs.Falling.{load}
use Rattle.lola_parser.proofs.expressions.expression_is_read.Given as goal

abbrev pub invariant-loop-part : goal.invariant-loop-part
invariant-loop-part l = record {
  same : (n : ℕ) → length l.fn.cursor < n → left_by_all n l.stack l.cursor ≡ left_by n p.Expr l.fn.cursor;
  within : length l.cursor ≤ length l.fn.cursor;
}

abbrev pub decreases-loop-part : goal.decreases-loop-part
decreases-loop-part l = load l.cursor l.stack
