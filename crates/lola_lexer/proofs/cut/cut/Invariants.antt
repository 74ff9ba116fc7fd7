use Rattle.std.proofs.Common.{◌≡◌, ◌-◌, ◌≤◌, length, drop}
use Rattle.lola_lexer.specs.Tokens.{with_front, tokens_from}
use Rattle.lola_lexer.proofs.cut.cut.Given as goal

abbrev pub invariant-loop-at : goal.invariant-loop-at
invariant-loop-at l = record { so_far : with_front l.tokens (tokens_from 0 l.at (drop l.at l.bytes)) ≡ tokens_from 0 0 l.bytes; in_range : l.at ≤ length l.bytes }

abbrev pub decreases-loop-at : goal.decreases-loop-at
decreases-loop-at l = length l.bytes - l.at
