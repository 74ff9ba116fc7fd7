use Rattle.std.proofs.Common.{◌≡◌, ℕ, ◌<◌, ◌≤◌, false, length, get_or}
use Rattle.lola_lexer.specs.declared.token.Token.{Token}
use Rattle.lola_parser.specs.Looking.{is_nesting_shape}
use Rattle.lola_parser.proofs.looking_back.last_nesting.Given as goal

abbrev pub invariant-loop-at : goal.invariant-loop-at
invariant-loop-at l = record {
  within : l.at ≤ length l.tokens;
  none : (k : ℕ) (d : Token) → l.at ≤ k → k < length l.tokens → is_nesting_shape (get_or l.tokens k d).shape ≡ false;
}

abbrev pub decreases-loop-at : goal.decreases-loop-at
decreases-loop-at l = l.at
