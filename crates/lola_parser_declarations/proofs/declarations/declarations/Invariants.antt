use Rattle.std.proofs.Common.{◌≡◌, ◌-◌}
use Rattle.lola_parser_grammar.specs.Syntax.{read}
use Rattle.lola_parser_grammar.specs.Grammar.{declaration, specification}
use Rattle.lola_parser_cursor.proofs.Joins.{goes_on, snoc}
use Rattle.lola_parser_declarations.proofs.declarations.declarations.Given as goal

abbrev pub invariant-loop-turn : goal.invariant-loop-turn
invariant-loop-turn l = read (specification 514) l.fn.parser.room l.fn.parser.rest ≡ goes_on snoc (declaration 514) (l._turn-end - l._turn) l.all l.parser.room l.parser.rest
