use Rattle.std.proofs.Common.{arith, refl, ◌≡◌, Ok, Err, inl, inr}
use Rattle.lola_parser_grammar.specs.Syntax.{read, max_nestings, Unexpected, TooDeep}
use Rattle.lola_parser_grammar.specs.Cursor.{lexemes}
use Rattle.lola_parser_grammar.specs.Grammar.{specification}
use Rattle.lola_parser_grammar.proofs.Ends.{all_ok, all_left, all_err}
use Rattle.lola_parser_declarations.proofs.reading.read.Goals as goal

pub returns-then-left-gt0 : goal.returns-then-left-gt0
returns-then-left-gt0 c =
    let ts = lexemes c.args.bytes.now c.args.tokens.now in
    let rest = c.declarations.new.parser.rest in
    let h : read (specification 514) max_nestings ts ≡ Ok (c.in-Ok.all, c.declarations.new.parser.room, rest) = rw (← c.new-parser.ensures.rest, ← c.new-parser.ensures.room) c.in-Ok.ensures in
    rw c.refused-then-left-gt0.ensures (inl (refl, (rest, refl, all_left 514 ts c.in-Ok.all c.declarations.new.parser.room rest h (omega (arith, c.left.ensures, c.if-left-gt0.true)))))

pub returns-in-Err-Unexpected : goal.returns-in-Err-Unexpected
returns-in-Err-Unexpected c =
    let ts = lexemes c.args.bytes.now c.args.tokens.now in
    let rest = c.declarations.new.parser.rest in
    let h : read (specification 514) max_nestings ts ≡ Err (Unexpected rest) = rw (← c.new-parser.ensures.rest, ← c.new-parser.ensures.room) (rw c.in-Err-Unexpected.field-0-is at c.in-Err-Unexpected.ensures) in
    rw c.refused.ensures (inl (refl, (rest, refl, all_err 514 ts (Unexpected rest) h)))

pub returns-in-Err-TooDeep : goal.returns-in-Err-TooDeep
returns-in-Err-TooDeep c =
    let ts = lexemes c.args.bytes.now c.args.tokens.now in
    let rest = c.declarations.new.parser.rest in
    let h : read (specification 514) max_nestings ts ≡ Err (TooDeep rest) = rw (← c.new-parser.ensures.rest, ← c.new-parser.ensures.room) (rw c.in-Err-TooDeep.field-0-is at c.in-Err-TooDeep.ensures) in
    rw c.refused-in-Err-TooDeep.ensures (inr (refl, (rest, refl, all_err 514 ts (TooDeep rest) h)))

pub returns-else-left-gt0 : goal.returns-else-left-gt0
returns-else-left-gt0 c =
    let ts = lexemes c.args.bytes.now c.args.tokens.now in
    let rest = c.declarations.new.parser.rest in
    let h : read (specification 514) max_nestings ts ≡ Ok (c.in-Ok.all, c.declarations.new.parser.room, rest) = rw (← c.new-parser.ensures.rest, ← c.new-parser.ensures.room) c.in-Ok.ensures in
    all_ok 514 ts c.in-Ok.all c.declarations.new.parser.room rest h (omega (arith, c.left.ensures, c.if-left-gt0.false))
