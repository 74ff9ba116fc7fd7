use Rattle.std.proofs.Common.{◌≡◌, ◌++◌, drop, false}
use Rattle.lola_parser_grammar.specs.Literals.{unescaped}
use Rattle.lola_parser_cursor.proofs.literals.unescaped.Given as goal

abbrev pub invariant-loop-byte : goal.invariant-loop-byte
invariant-loop-byte l = l.text ++ unescaped l.is_escaped (drop l.byte-index l.inner) ≡ unescaped false l.inner
