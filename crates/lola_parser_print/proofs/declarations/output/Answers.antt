use Rattle.std.proofs.Common.{◌∷◌, ◌++◌, append_assoc}
use Rattle.lola_lexer.specs.declared.shape.TokenShape.TheVariants as is
use Rattle.lola_parser_print.specs.Print as out
use Rattle.lola_parser_print.specs.Print.{lex, spelled_out}
use Rattle.lola_parser_print.proofs.Writing.{ends_more, adds_more}
use Rattle.lola_parser_print.proofs.declarations.output.Goals as goal

pub returns : goal.returns
returns c =
    let x = c.args.x.now in
    let h = lex is.Output ∷ out.name x.name ∷ out.parameters x.parameters in
    let k = out.kind x.kind in
    let b = out.body x.spawn x.eval x.close in
    let two = adds_more _ _ _ h k c.in_ok-head.ensures c.in_ok-kind.ensures in
    ends_more c.body.result _ _ _ (h ++ k) b (out.output x) (append_assoc h k b) two c.body.ensures
