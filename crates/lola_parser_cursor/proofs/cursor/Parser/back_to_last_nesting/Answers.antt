use Rattle.std.proofs.Common.{◌≡◌, ℕ, ◌-◌, ◌∙◌, refl, sym, ap, drop, length, arith}
use Rattle.lola_parser_grammar.specs.Syntax.{last_nesting}
use Rattle.lola_parser_grammar.specs.Cursor.{Cursor, lexemes}
use Rattle.lola_parser_grammar.specs.Grammar.{all_nestings}
use Rattle.lola_parser_cursor.proofs.Backwards.{none_left}
use Rattle.lola_parser_cursor.proofs.cursor.Parser.back_to_last_nesting.Goals as goal

pub returns-clause-rest : goal.returns-clause-rest
returns-clause-rest c =
    let done : (c.left.result - c.left-2.result) - c.loop-turn._turn ≡ 0 = omega (arith, c.loop-turn-test.false) in
    let seen : lexemes c.last.inside.bytes.now (drop c.last.inside.at c.last.inside.tokens.now) ≡ c.loop-turn.last.rest = ap (λ (k : Cursor). k.rest) c.last.view_is in
    let lens : last_nesting all_nestings (c.left.result - c.left-2.result) c.args.self.now.rest c.args.start.rest ≡ last_nesting all_nestings (length c.args.start.rest - length c.args.self.now.rest) c.args.self.now.rest c.args.start.rest = rw (c.left.ensures, c.left-2.ensures) refl in
    seen ∙ sym (none_left all_nestings c.loop-turn.last.rest c.loop-turn.here.rest) ∙ ap (λ (n : ℕ). last_nesting all_nestings n c.loop-turn.last.rest c.loop-turn.here.rest) (sym done) ∙ c.loop-turn.invariant.same ∙ lens
