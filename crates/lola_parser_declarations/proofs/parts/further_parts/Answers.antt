use Rattle.std.proofs.Common.{rules, arith, ◌≡◌, ◌-◌, ◌+◌, ◌∙◌, length, true, Ok}
use Rattle.std.proofs.lemmas.Grind.{common_steps}
use Rattle.lola_lexer.specs.declared.shape.TokenShape.TheVariants as is
use Rattle.lola_parser_grammar.specs.Syntax.{starts, read, first, nullable}
use Rattle.lola_parser_grammar.specs.Grammar.{token, part_behind}
use Rattle.lola_parser_cursor.proofs.Joins.{goes_on, snoc, list_begins, goes_fails, goes_further}
use Rattle.lola_parser_cursor.proofs.Turns.{one_more}
use Rattle.lola_parser_declarations.proofs.parts.further_parts.Goals as goal

pub loop-turn-init : goal.loop-turn-init
loop-turn-init c =
    let e : c.left-turn-end.result - 0 ≡ length c.args.parser.now.rest = omega (arith, c.left-turn-end.ensures) in
    rw (e) (list_begins (part_behind 514 is.Comma) c.args.front c.args.parser.now.room c.args.parser.now.rest)

pub returns-in_err-one : goal.returns-in_err-one
unfolding read first nullable part_behind token
returns-in_err-one c =
    let e = one_more (λ n. goes_on snoc (part_behind 514 is.Comma) n c.loop-turn.all c.loop-turn.parser.room c.loop-turn.parser.rest) _ c.loop-turn._turn c.loop-turn-test.true c.loop-turn.invariant in
    let h : starts (first (part_behind 514 is.Comma)) c.loop-turn.parser.rest ≡ true = cc in
    let f = goes_fails snoc (part_behind 514 is.Comma) (c.left-turn-end.result - (c.loop-turn._turn + 1)) c.loop-turn.all c.loop-turn.parser.room c.loop-turn.parser.rest in
    first_of (search (rules, f), grind (arith, common_steps, f))

pub loop-turn-preserved : goal.loop-turn-preserved
unfolding read first nullable part_behind token
loop-turn-preserved c =
    let e = one_more (λ n. goes_on snoc (part_behind 514 is.Comma) n c.loop-turn.all c.loop-turn.parser.room c.loop-turn.parser.rest) _ c.loop-turn._turn c.loop-turn-test.true c.loop-turn.invariant in
    let h : starts (first (part_behind 514 is.Comma)) c.loop-turn.parser.rest ≡ true = cc in
    let k : read (part_behind 514 is.Comma) c.loop-turn.parser.room c.loop-turn.parser.rest ≡ Ok (c.in_ok-one.one, c.part_behind.new.parser.room, c.part_behind.new.parser.rest) = c.in_ok-one.ensures in
    let t = goes_further snoc (part_behind 514 is.Comma) (c.left-turn-end.result - (c.loop-turn._turn + 1)) c.loop-turn.all c.loop-turn.parser.room c.loop-turn.parser.rest c.in_ok-one.one c.part_behind.new.parser.room c.part_behind.new.parser.rest h k in
    rw c.in_ok-push.ensures.ok (e ∙ t)
