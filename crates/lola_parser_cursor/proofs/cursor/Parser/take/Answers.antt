use Rattle.std.proofs.Common.{◌≡◌, true, false}
use Rattle.lola_parser_grammar.specs.Syntax.{same_shape}
use Rattle.lola_parser_cursor.proofs.Steps.{token_ended, token_missed, token_taken}
use Rattle.lola_parser_cursor.proofs.cursor.Parser.take.Goals as goal

pub returns-in_default : goal.returns-in_default
returns-in_default c = token_ended c.args.shape c.args.self.now.room c.args.self.now.rest c.in_default.ensures

pub returns-then-not-same : goal.returns-then-not-same
returns-then-not-same c =
    let e : same_shape c.args.shape c.in-Some.token.shape ≡ false = cc in
    token_missed c.args.shape c.in-Some.token c.args.self.now.room c.args.self.now.rest c.in-Some.ensures e

pub returns : goal.returns
returns c =
    let e : same_shape c.args.shape c.in-Some.token.shape ≡ true = cc in
    rw (c.advance.ensures.rest, c.advance.ensures.room) (token_taken c.args.shape c.in-Some.token c.args.self.now.room c.args.self.now.rest c.in-Some.ensures e)
