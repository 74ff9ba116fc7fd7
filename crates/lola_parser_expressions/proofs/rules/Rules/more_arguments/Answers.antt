use Rattle.std.proofs.Common.{rules, arith, refl, ◌≡◌, ◌-◌, ◌+◌, ◌∙◌, length, true, Ok}
use Rattle.std.proofs.lemmas.Grind.{common_steps}
use Rattle.lola_parser_grammar.specs.Syntax.{starts, read, first, nullable}
use Rattle.lola_parser_grammar.specs.Grammar.{token, further, expr_in}
use Rattle.lola_parser_cursor.proofs.Joins.{goes_on, snoc, list_begins, goes_fails, goes_further}
use Rattle.lola_parser_cursor.proofs.Turns.{one_more}
use Rattle.lola_parser_expressions.proofs.rules.Rules.more_arguments.Goals as goal

pub loop-turn-init : goal.loop-turn-init
loop-turn-init g c =
    let e : c.left-turn-end.result - 0 ≡ length c.args.parser.now.rest = omega (arith, c.left-turn-end.ensures) in
    rw (e) (list_begins (further (expr_in c.args.self.now.depth)) c.args.front c.args.parser.now.room c.args.parser.now.rest)

pub returns-in_err-one : goal.returns-in_err-one
unfolding read first nullable token
returns-in_err-one g c =
    let e = one_more (λ n. goes_on snoc (further (expr_in c.args.self.now.depth)) n c.loop-turn.all c.loop-turn.parser.room c.loop-turn.parser.rest) _ c.loop-turn._turn c.loop-turn-test.true c.loop-turn.invariant in
    let h : starts (first (further (expr_in c.args.self.now.depth))) c.loop-turn.parser.rest ≡ true = cc in
    let f = goes_fails snoc (further (expr_in c.args.self.now.depth)) (c.left-turn-end.result - (c.loop-turn._turn + 1)) c.loop-turn.all c.loop-turn.parser.room c.loop-turn.parser.rest in
    first_of (search (rules, f), grind (arith, common_steps, f))

pub loop-turn-preserved : goal.loop-turn-preserved
unfolding read first nullable token
loop-turn-preserved g c =
    let e = one_more (λ n. goes_on snoc (further (expr_in c.args.self.now.depth)) n c.loop-turn.all c.loop-turn.parser.room c.loop-turn.parser.rest) _ c.loop-turn._turn c.loop-turn-test.true c.loop-turn.invariant in
    let h : starts (first (further (expr_in c.args.self.now.depth))) c.loop-turn.parser.rest ≡ true = cc in
    let k : read (further (expr_in c.args.self.now.depth)) c.loop-turn.parser.room c.loop-turn.parser.rest ≡ Ok (c.in_ok-one.one, c.expr.new.parser.room, c.expr.new.parser.rest) = rw (c.in_ok-take.ensures, c.in_ok-one.ensures) refl in
    let t = goes_further snoc (further (expr_in c.args.self.now.depth)) (c.left-turn-end.result - (c.loop-turn._turn + 1)) c.loop-turn.all c.loop-turn.parser.room c.loop-turn.parser.rest c.in_ok-one.one c.expr.new.parser.room c.expr.new.parser.rest h k in
    rw c.in_ok-push.ensures.ok (e ∙ t)
