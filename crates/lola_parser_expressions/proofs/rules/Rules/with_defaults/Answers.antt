use Rattle.std.proofs.Common.{◌≡◌, ◌-◌, ◌+◌, ◌∷◌, [], ◌∙◌, true}
use Rattle.lola_lexer.specs.declared.shape.TokenShape.TheVariants as is
use Rattle.lola_parser_grammar.specs.Syntax.{Of, starts, read, first, nullable}
use Rattle.lola_parser_grammar.specs.Grammar.{nesting, with_default, dotted_default, expr_in, other_in}
use Rattle.lola_parser_cursor.proofs.Joins.{goes_on, goes_further}
use Rattle.lola_parser_cursor.proofs.Turns.{one_more}
use Rattle.lola_parser_expressions.proofs.rules.Rules.with_defaults.Goals as goal

pub loop-turn-preserved : goal.loop-turn-preserved
unfolding read first nullable dotted_default nesting
loop-turn-preserved g c =
    let e = one_more (λ n. goes_on with_default (dotted_default (expr_in c.args.self.now.depth) (other_in c.args.self.now.depth)) n c.loop-turn.left c.loop-turn.parser.room c.loop-turn.parser.rest) _ c.loop-turn._turn c.loop-turn-test.true c.loop-turn.invariant in
    let h : starts (Of is.Dot ∷ []) c.loop-turn.parser.rest ≡ true = cc in
    let t = goes_further with_default (dotted_default (expr_in c.args.self.now.depth) (other_in c.args.self.now.depth)) (c.left-turn-end.result - (c.loop-turn._turn + 1)) c.loop-turn.left c.loop-turn.parser.room c.loop-turn.parser.rest (c.in_ok-dot.dot, c.in_ok-dot.other) c.dotted_default.new.parser.room c.dotted_default.new.parser.rest h c.in_ok-dot.ensures in
    rw c.in_ok-left.ensures (e ∙ t)
