use Rattle.std.proofs.Common.{◌∷◌, [], sym, ap}
use Rattle.lola_lexer.specs.declared.shape.TokenShape.TheVariants as is
use Rattle.lola_parser_print.specs.Print as out
use Rattle.lola_parser_print.specs.Print.{lex, spelled_out}
use Rattle.lola_parser_print.proofs.Writing.{ends_more, adds_more}
use Rattle.lola_parser_print.proofs.clauses.close.Goals as goal

pub returns-in_ok-pacing-in-Some : goal.returns-in_ok-pacing-in-Some
returns-in_ok-pacing-in-Some c =
    let x = c.in-Some.x in
    let p = out.maybe out.pacing x.pacing in
    let two = adds_more _ _ _ (lex is.Close ∷ []) p c.in_ok-append-in-Some.ensures.ok c.in_ok-pacing-in-Some.ensures in
    ends_more c.part.result _ _ _ (lex is.Close ∷ p) (out.part is.When x.when) (out.maybe out.close c.args.x.now) (ap (out.maybe out.close) (sym c.in-Some.is)) two c.part.ensures
