use Rattle.std.proofs.Common.{◌∷◌, []}
use Rattle.lola_lexer.specs.declared.shape.TokenShape.TheVariants as is
use Rattle.lola_parser_print.specs.Print as out
use Rattle.lola_parser_print.specs.Print.{lex, spelled_out}
use Rattle.lola_parser_print.proofs.Writing.{ends_more, adds_more, some_parameters}
use Rattle.lola_parser_print.proofs.declarations.parameters.Goals as goal

pub returns : goal.returns
returns c =
    let xs = c.args.xs.now in
    let two = adds_more _ _ _ (lex is.Open ∷ []) (out.listed xs) c.in_ok-append.ensures.ok c.in_ok-listed.ensures in
    ends_more c.append-2.result _ _ _ (lex is.Open ∷ out.listed xs) (lex is.Shut ∷ []) (out.parameters xs) (some_parameters xs c.if-is_empty.ensures) two c.append-2.ensures.ok
