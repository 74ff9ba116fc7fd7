use Rattle.std.proofs.Common.{refl, ◌≡◌, ◌-◌, ◌+◌, ◌∷◌, [], ◌∙◌, true, Ok}
use Rattle.lola_lexer.specs.declared.shape.TokenShape.TheVariants as is
use Rattle.lola_parser_grammar.specs.Syntax.{Of, Then, starts, read, first, nullable}
use Rattle.lola_parser_grammar.specs.Grammar.{nesting, either, conjunct, formula_in}
use Rattle.lola_parser_cursor.proofs.Joins.{goes_on, goes_further}
use Rattle.lola_parser_cursor.proofs.Turns.{one_more}
use Rattle.lola_parser_expressions.proofs.formulas.FormulaRules.alternatives.Goals as goal

pub loop-turn-preserved : goal.loop-turn-preserved
unfolding read first nullable nesting
loop-turn-preserved g c =
    let e = one_more (λ n. goes_on either (Then (nesting is.Or) (conjunct (formula_in c.args.self.now.depth))) n c.loop-turn.left c.loop-turn.parser.room c.loop-turn.parser.rest) _ c.loop-turn._turn c.loop-turn-test.true c.loop-turn.invariant in
    let h : starts (Of is.Or ∷ []) c.loop-turn.parser.rest ≡ true = cc in
    let k : read (Then (nesting is.Or) (conjunct (formula_in c.args.self.now.depth))) c.loop-turn.parser.room c.loop-turn.parser.rest ≡ Ok ((c.in_ok-at.at, c.in_ok-right.right), c.conjunct.new.parser.room, c.conjunct.new.parser.rest) = rw (c.in_ok-at.ensures, c.in_ok-right.ensures) refl in
    let t = goes_further either (Then (nesting is.Or) (conjunct (formula_in c.args.self.now.depth))) (c.left-turn-end.result - (c.loop-turn._turn + 1)) c.loop-turn.left c.loop-turn.parser.room c.loop-turn.parser.rest (c.in_ok-at.at, c.in_ok-right.right) c.conjunct.new.parser.room c.conjunct.new.parser.rest h k in
    rw c.in_ok-left.ensures (e ∙ t)
