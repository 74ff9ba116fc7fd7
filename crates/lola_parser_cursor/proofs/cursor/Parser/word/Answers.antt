use Rattle.std.proofs.Common.{◌≡◌, ◌∷◌, [], true, false}
use Rattle.lola_parser_grammar.specs.Syntax.{starts, Word}
use Rattle.lola_parser_cursor.proofs.Steps.{word_ended, word_missed, word_taken}
use Rattle.lola_parser_cursor.proofs.cursor.Parser.word.Goals as goal

pub returns-then-not-sees_word : goal.returns-then-not-sees_word
returns-then-not-sees_word c =
    let e : starts (Word c.args.word.now ∷ []) c.args.self.now.rest ≡ false = cc in
    word_missed c.args.word.now c.args.self.now.room c.args.self.now.rest e

pub returns-in_default : goal.returns-in_default
returns-in_default c = word_ended c.args.word.now c.args.self.now.room c.args.self.now.rest c.in_default.ensures

pub returns : goal.returns
returns c =
    let e : starts (Word c.args.word.now ∷ []) c.args.self.now.rest ≡ true = cc in
    rw (c.advance.ensures.rest, c.advance.ensures.room) (word_taken c.args.word.now c.in-Some.token c.args.self.now.room c.args.self.now.rest c.in-Some.ensures e)
