use Rattle.std.proofs.Common.{List, Err, length, subst}
use Rattle.lola_lexer.specs.declared.token.Token.{Token}
use Rattle.lola_parser_grammar.specs.Cursor.{lexemes}
use Rattle.lola_parser.specs.Places.{Answers}
use Rattle.lola_parser.proofs.Own.{places_exactly}
use Rattle.lola_parser.proofs.reading.specification.Goals as goal

pub returns-in-Err-Refused-clause-deep : goal.returns-in-Err-Refused-clause-deep
returns-in-Err-Refused-clause-deep c =
    let h = subst (λ (ts : List Token). Answers (lexemes c.args.bytes.now ts) (length c.args.bytes.now) (Err c.placed.result)) c.as_slice.ensures c.placed.ensures in
    places_exactly (lexemes c.args.bytes.now c.args.tokens.now) (length c.args.bytes.now) (Err c.placed.result) h
