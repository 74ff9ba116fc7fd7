use Rattle.std.proofs.Common.{◌≡◌, ◌-◌, ◌≤◌, length, drop, false}
use Rattle.lola_lexer.specs.Lexical.{comment_end}
use Rattle.lola_lexer.proofs.scan.texts.comment_end.Given as goal

abbrev pub invariant-loop-at : goal.invariant-loop-at
invariant-loop-at l = (comment_end l.is_star l.at (drop l.at l.bytes) ≡ comment_end false 2 (drop 2 l.bytes)) × (l.at ≤ length l.bytes)

abbrev pub decreases-loop-at : goal.decreases-loop-at
decreases-loop-at l = length l.bytes - l.at
