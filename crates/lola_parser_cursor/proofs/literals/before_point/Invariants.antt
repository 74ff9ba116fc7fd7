use Rattle.std.proofs.Common.{◌≡◌, ◌+◌, drop}
use Rattle.lola_parser_grammar.specs.Literals.{before_point}
use Rattle.lola_parser_cursor.proofs.literals.before_point.Given as goal

abbrev pub invariant-loop-at : goal.invariant-loop-at
invariant-loop-at l = l.at + before_point (drop l.at l.text) ≡ before_point l.text
