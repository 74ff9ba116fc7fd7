use Rattle.std.proofs.Common.{◌≡◌, ◌∷◌, ◌++◌, ap, append_assoc}
use Rattle.lola_lexer.specs.declared.shape.TokenShape.TheVariants as is
use Rattle.lola_parser_print.specs.Print as out
use Rattle.lola_parser_print.specs.Print.{lex, spelled_out}
use Rattle.lola_parser_print.proofs.Writing.{ends_more}
use Rattle.lola_parser_print.proofs.clauses.eval.Goals as goal

pub returns : goal.returns
returns c =
    let x = c.args.x.now in
    let p = out.maybe out.pacing x.pacing in
    let w = out.maybe (out.part is.When) x.when in
    let same : (lex is.Eval ∷ (p ++ w)) ++ out.part is.With x.with ≡ out.eval x = ap (λ l. lex is.Eval ∷ l) (append_assoc p w (out.part is.With x.with)) in
    ends_more c.part.result _ _ _ (lex is.Eval ∷ (p ++ w)) (out.part is.With x.with) (out.eval x) same c.in_ok-clause.ensures c.part.ensures
