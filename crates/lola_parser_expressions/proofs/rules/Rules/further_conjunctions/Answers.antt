use Rattle.std.proofs.Common.{rules, arith, ◌≡◌, ◌-◌, ◌+◌, ◌∙◌, length, Some, Ok}
use Rattle.std.proofs.lemmas.Grind.{common_steps}
use Rattle.lola_parser_grammar.specs.Syntax.{read, Maybe, Then}
use Rattle.lola_parser_grammar.specs.Grammar.{join, comparison, and_operators, expr_in, other_in}
use Rattle.lola_parser_cursor.proofs.Joins.{operators_on, tail_begins, and_full, turn_ends, turn_fails, turn_breaks, turn_goes}
use Rattle.lola_parser_cursor.proofs.Turns.{one_more}
use Rattle.lola_parser_expressions.proofs.rules.Rules.further_conjunctions.Goals as goal

pub loop-turn-init : goal.loop-turn-init
loop-turn-init g c =
    let e : c.left-turn-end.result - 0 ≡ length c.args.parser.now.rest = omega (arith, c.left-turn-end.ensures) in
    rw e (tail_begins join (Then and_operators (comparison (expr_in c.args.self.now.depth) (other_in c.args.self.now.depth))) c.args.start c.args.parser.now.room c.args.parser.now.rest)

pub returns-in_err-op : goal.returns-in_err-op
returns-in_err-op g c =
    let e = one_more (λ n. operators_on and_operators (comparison (expr_in c.args.self.now.depth) (other_in c.args.self.now.depth)) n c.loop-turn.left c.loop-turn.parser.room c.loop-turn.parser.rest) _ c.loop-turn._turn c.loop-turn-test.true c.loop-turn.invariant in
    let f = turn_fails and_operators (comparison (expr_in c.args.self.now.depth) (other_in c.args.self.now.depth)) and_full c.loop-turn.left c.loop-turn.parser.room c.loop-turn.parser.rest (c.left-turn-end.result - (c.loop-turn._turn + 1)) in
    first_of (search (rules, f), grind (arith, common_steps, f))

pub returns-in_default : goal.returns-in_default
returns-in_default g c =
    let e = one_more (λ n. operators_on and_operators (comparison (expr_in c.args.self.now.depth) (other_in c.args.self.now.depth)) n c.loop-turn.left c.loop-turn.parser.room c.loop-turn.parser.rest) _ c.loop-turn._turn c.loop-turn-test.true c.loop-turn.invariant in
    let f = turn_ends and_operators (comparison (expr_in c.args.self.now.depth) (other_in c.args.self.now.depth)) and_full c.loop-turn.left c.loop-turn.parser.room c.loop-turn.parser.rest (c.left-turn-end.result - (c.loop-turn._turn + 1)) in
    first_of (search (rules, f), grind (arith, common_steps, f))

pub returns-in_err-right : goal.returns-in_err-right
returns-in_err-right g c =
    let e = one_more (λ n. operators_on and_operators (comparison (expr_in c.args.self.now.depth) (other_in c.args.self.now.depth)) n c.loop-turn.left c.loop-turn.parser.room c.loop-turn.parser.rest) _ c.loop-turn._turn c.loop-turn-test.true c.loop-turn.invariant in
    let f = turn_breaks and_operators (comparison (expr_in c.args.self.now.depth) (other_in c.args.self.now.depth)) and_full c.loop-turn.left c.loop-turn.parser.room c.loop-turn.parser.rest (c.left-turn-end.result - (c.loop-turn._turn + 1)) in
    first_of (search (rules, f), grind (arith, common_steps, f))

pub loop-turn-preserved : goal.loop-turn-preserved
loop-turn-preserved g c =
    let e = one_more (λ n. operators_on and_operators (comparison (expr_in c.args.self.now.depth) (other_in c.args.self.now.depth)) n c.loop-turn.left c.loop-turn.parser.room c.loop-turn.parser.rest) _ c.loop-turn._turn c.loop-turn-test.true c.loop-turn.invariant in
    let h : read (Maybe and_operators) c.loop-turn.parser.room c.loop-turn.parser.rest ≡ Ok (Some (c.in-Some.op, c.in-Some.at), c.and_operator.new.parser.room, c.and_operator.new.parser.rest) = grind (arith, common_steps) in
    let t = turn_goes and_operators (comparison (expr_in c.args.self.now.depth) (other_in c.args.self.now.depth)) and_full c.loop-turn.left c.loop-turn.parser.room c.loop-turn.parser.rest (c.left-turn-end.result - (c.loop-turn._turn + 1)) (c.in-Some.op, c.in-Some.at) c.and_operator.new.parser.room c.and_operator.new.parser.rest c.in_ok-right.right c.comparison.new.parser.room c.comparison.new.parser.rest h c.in_ok-right.ensures in
    rw c.in_ok-left.ensures (e ∙ t)
