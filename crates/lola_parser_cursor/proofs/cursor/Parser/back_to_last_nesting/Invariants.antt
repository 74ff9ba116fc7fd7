use Rattle.std.proofs.Common.{◌≡◌, ◌-◌, ◌≤◌, length}
use Rattle.lola_parser_grammar.specs.Syntax.{last_nesting}
use Rattle.lola_parser_grammar.specs.Grammar.{all_nestings}
use Rattle.lola_parser_cursor.proofs.cursor.Parser.back_to_last_nesting.Given as goal

abbrev pub invariant-loop-turn : goal.invariant-loop-turn
invariant-loop-turn l = record {
  same : last_nesting all_nestings (l.count - l._turn) l.last.rest l.here.rest ≡ last_nesting all_nestings l.count l.fn.self.rest l.fn.start.rest;
  enough : l.count - l._turn ≤ length l.here.rest;
}
