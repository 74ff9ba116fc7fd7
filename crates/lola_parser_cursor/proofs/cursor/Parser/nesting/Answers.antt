use Rattle.std.proofs.Common.{◌≡◌, ◌<◌, true, false, arith}
use Rattle.std.proofs.lemmas.Grind.{common_steps}
use Rattle.lola_parser_grammar.specs.Syntax.{same_shape}
use Rattle.lola_parser_cursor.proofs.Steps.{nesting_ended, nesting_missed, nesting_taken, nesting_deep}
use Rattle.lola_parser_cursor.proofs.cursor.Parser.nesting.Goals as goal

pub returns-in_default : goal.returns-in_default
returns-in_default c = nesting_ended c.args.shape c.args.self.now.room c.args.self.now.rest c.in_default.ensures

pub returns-then-not-same : goal.returns-then-not-same
returns-then-not-same c =
    let e : same_shape c.args.shape c.in-Some.token.shape ≡ false = cc in
    nesting_missed c.args.shape c.in-Some.token c.args.self.now.room c.args.self.now.rest c.in-Some.ensures e

pub returns-then-not-has_room : goal.returns-then-not-has_room
returns-then-not-has_room c =
    let e : same_shape c.args.shape c.in-Some.token.shape ≡ true = cc in
    let z : c.args.self.now.room ≡ 0 = grind (arith, common_steps) in
    nesting_deep c.args.shape c.in-Some.token c.args.self.now.room c.args.self.now.rest c.in-Some.ensures e z

pub returns : goal.returns
returns c =
    let e : same_shape c.args.shape c.in-Some.token.shape ≡ true = cc in
    let z : 0 < c.args.self.now.room = grind (arith, common_steps) in
    rw (c.spend.ensures.rest, c.spend.ensures.room, c.advance.ensures.rest, c.advance.ensures.room) (nesting_taken c.args.shape c.in-Some.token c.args.self.now.room c.args.self.now.rest c.in-Some.ensures e z)
