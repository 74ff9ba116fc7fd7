use Rattle.std.proofs.Common.{◌≡◌, ◌-◌}
use Rattle.lola_lexer.specs.declared.shape.TokenShape.TheVariants as is
use Rattle.lola_parser_grammar.specs.Syntax.{read}
use Rattle.lola_parser_grammar.specs.Grammar.{added, part_behind}
use Rattle.lola_parser_cursor.proofs.Joins.{goes_on, snoc}
use Rattle.lola_parser_declarations.proofs.parts.further_parts.Given as goal

abbrev pub invariant-loop-turn : goal.invariant-loop-turn
invariant-loop-turn l = read (added l.fn.front (part_behind 514 is.Comma)) l.fn.parser.room l.fn.parser.rest ≡ goes_on snoc (part_behind 514 is.Comma) (l._turn-end - l._turn) l.all l.parser.room l.parser.rest
