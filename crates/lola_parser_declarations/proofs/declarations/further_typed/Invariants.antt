use Rattle.std.proofs.Common.{◌≡◌, ◌-◌}
use Rattle.lola_parser_grammar.specs.Syntax.{read}
use Rattle.lola_parser_grammar.specs.Grammar.{added, further, typed}
use Rattle.lola_parser_cursor.proofs.Joins.{goes_on, snoc}
use Rattle.lola_parser_declarations.proofs.declarations.further_typed.Given as goal

abbrev pub invariant-loop-turn : goal.invariant-loop-turn
invariant-loop-turn l = read (added l.fn.front (further typed)) l.fn.parser.room l.fn.parser.rest ≡ goes_on snoc (further typed) (l._turn-end - l._turn) l.all l.parser.room l.parser.rest
