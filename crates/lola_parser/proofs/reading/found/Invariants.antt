use Rattle.std.proofs.Common.{◌≢◌, ℕ, ◌<◌, get_or}
use Rattle.lola_lexer.specs.declared.token.Token.{Token}
use Rattle.lola_parser.proofs.reading.found.Given as goal

abbrev pub invariant-loop-i : goal.invariant-loop-i
invariant-loop-i l = (k : ℕ) (d : Token) → k < l.i → (get_or l.tokens k d).from ≢ l.at
