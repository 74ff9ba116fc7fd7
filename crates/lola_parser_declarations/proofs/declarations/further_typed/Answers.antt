use Rattle.std.proofs.Common.{rules, arith, refl, ◌≡◌, ◌-◌, ◌+◌, ◌∙◌, length, true, Ok}
use Rattle.std.proofs.lemmas.Grind.{common_steps}
use Rattle.lola_parser_grammar.specs.Syntax.{starts, read, first, nullable}
use Rattle.lola_parser_grammar.specs.Grammar.{token, further, typed}
use Rattle.lola_parser_cursor.proofs.Joins.{goes_on, snoc, list_begins, goes_fails, goes_further}
use Rattle.lola_parser_cursor.proofs.Turns.{one_more}
use Rattle.lola_parser_declarations.proofs.declarations.further_typed.Goals as goal

pub loop-turn-init : goal.loop-turn-init
loop-turn-init c =
    let e : c.left-turn-end.result - 0 ≡ length c.args.parser.now.rest = omega (arith, c.left-turn-end.ensures) in
    rw (e) (list_begins (further typed) c.args.front c.args.parser.now.room c.args.parser.now.rest)

pub returns-in_err-one : goal.returns-in_err-one
unfolding read first nullable token
returns-in_err-one c =
    let e = one_more (λ n. goes_on snoc (further typed) n c.loop-turn.all c.loop-turn.parser.room c.loop-turn.parser.rest) _ c.loop-turn._turn c.loop-turn-test.true c.loop-turn.invariant in
    let h : starts (first (further typed)) c.loop-turn.parser.rest ≡ true = cc in
    let f = goes_fails snoc (further typed) (c.left-turn-end.result - (c.loop-turn._turn + 1)) c.loop-turn.all c.loop-turn.parser.room c.loop-turn.parser.rest in
    first_of (search (rules, f), grind (arith, common_steps, f))

pub loop-turn-preserved : goal.loop-turn-preserved
unfolding read first nullable token
loop-turn-preserved c =
    let e = one_more (λ n. goes_on snoc (further typed) n c.loop-turn.all c.loop-turn.parser.room c.loop-turn.parser.rest) _ c.loop-turn._turn c.loop-turn-test.true c.loop-turn.invariant in
    let h : starts (first (further typed)) c.loop-turn.parser.rest ≡ true = cc in
    let k : read (further typed) c.loop-turn.parser.room c.loop-turn.parser.rest ≡ Ok (c.in_ok-one.one, c.typed.new.parser.room, c.typed.new.parser.rest) = rw (c.in_ok-take.ensures, c.in_ok-one.ensures) refl in
    let t = goes_further snoc (further typed) (c.left-turn-end.result - (c.loop-turn._turn + 1)) c.loop-turn.all c.loop-turn.parser.room c.loop-turn.parser.rest c.in_ok-one.one c.typed.new.parser.room c.typed.new.parser.rest h k in
    rw c.in_ok-push.ensures.ok (e ∙ t)
