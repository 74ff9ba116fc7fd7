use Rattle.std.proofs.Common.{◌≡◌, take, fold}
use Rattle.lola_parser_grammar.specs.Literals.{with_digit}
use Rattle.lola_parser_cursor.proofs.literals.number.Given as goal

abbrev pub invariant-loop-byte : goal.invariant-loop-byte
invariant-loop-byte l = l.number ≡ fold with_digit 0 (take l.byte-index l.text)
