use Rattle.std.proofs.Common.{◌≡◌, ◌-◌, ◌≤◌, length, drop, false}
use Rattle.lola_lexer.specs.Lexical.{closing}
use Rattle.lola_lexer.proofs.scan.texts.closing.Given as goal

abbrev pub invariant-loop-at : goal.invariant-loop-at
invariant-loop-at l = (closing l.is_escaped l.at (drop l.at l.bytes) ≡ closing false 1 (drop 1 l.bytes)) × (l.at ≤ length l.bytes)

abbrev pub decreases-loop-at : goal.decreases-loop-at
decreases-loop-at l = length l.bytes - l.at
