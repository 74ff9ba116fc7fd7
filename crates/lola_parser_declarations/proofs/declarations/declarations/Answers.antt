use Rattle.std.proofs.Common.{rules, arith, ◌≡◌, ◌-◌, ◌+◌, ◌∙◌, length, true, Ok}
use Rattle.std.proofs.lemmas.Grind.{common_steps}
use Rattle.lola_parser_grammar.specs.Syntax.{starts, read, first}
use Rattle.lola_parser_grammar.specs.Grammar.{declaration, specification}
use Rattle.lola_parser_cursor.proofs.Joins.{goes_on, snoc, all_begins, goes_fails, goes_further}
use Rattle.lola_parser_cursor.proofs.Turns.{one_more}
use Rattle.lola_parser_declarations.proofs.declarations.declarations.Goals as goal

pub loop-turn-init : goal.loop-turn-init
unfolding specification
loop-turn-init c =
    let e : c.left-turn-end.result - 0 ≡ length c.args.parser.now.rest = omega (arith, c.left-turn-end.ensures) in
    rw (c.new-all.ensures, e) (all_begins (declaration 514) c.args.parser.now.room c.args.parser.now.rest)

pub returns-in_err-one : goal.returns-in_err-one
returns-in_err-one c =
    let e = one_more (λ n. goes_on snoc (declaration 514) n c.loop-turn.all c.loop-turn.parser.room c.loop-turn.parser.rest) _ c.loop-turn._turn c.loop-turn-test.true c.loop-turn.invariant in
    let h : starts (first (declaration 514)) c.loop-turn.parser.rest ≡ true = cc in
    let f = goes_fails snoc (declaration 514) (c.left-turn-end.result - (c.loop-turn._turn + 1)) c.loop-turn.all c.loop-turn.parser.room c.loop-turn.parser.rest in
    first_of (search (rules, f), grind (arith, common_steps, f))

pub loop-turn-preserved : goal.loop-turn-preserved
loop-turn-preserved c =
    let e = one_more (λ n. goes_on snoc (declaration 514) n c.loop-turn.all c.loop-turn.parser.room c.loop-turn.parser.rest) _ c.loop-turn._turn c.loop-turn-test.true c.loop-turn.invariant in
    let h : starts (first (declaration 514)) c.loop-turn.parser.rest ≡ true = cc in
    let k : read (declaration 514) c.loop-turn.parser.room c.loop-turn.parser.rest ≡ Ok (c.in_ok-one.one, c.declaration.new.parser.room, c.declaration.new.parser.rest) = c.in_ok-one.ensures in
    let t = goes_further snoc (declaration 514) (c.left-turn-end.result - (c.loop-turn._turn + 1)) c.loop-turn.all c.loop-turn.parser.room c.loop-turn.parser.rest c.in_ok-one.one c.declaration.new.parser.room c.declaration.new.parser.rest h k in
    rw c.in_ok-push.ensures.ok (e ∙ t)
