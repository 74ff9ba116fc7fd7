use Rattle.std.proofs.Common.{◌≡◌, ◌+◌, drop}
use Rattle.lola_parser_grammar.specs.Literals.{before_letters}
use Rattle.lola_parser_cursor.proofs.literals.before_letters.Given as goal

abbrev pub invariant-loop-at : goal.invariant-loop-at
invariant-loop-at l = l.at + before_letters (drop l.at l.text) ≡ before_letters l.text
