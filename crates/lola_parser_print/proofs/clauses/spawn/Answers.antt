use Rattle.std.proofs.Common.{◌≡◌, ◌∷◌, ◌++◌, sym, ap, ◌∙◌, append_assoc}
use Rattle.lola_lexer.specs.declared.shape.TokenShape.TheVariants as is
use Rattle.lola_parser_print.specs.Print as out
use Rattle.lola_parser_print.specs.Print.{lex, spelled_out}
use Rattle.lola_parser_print.proofs.Writing.{ends_more}
use Rattle.lola_parser_print.proofs.clauses.spawn.Goals as goal

pub returns-in_ok-clause-in-Some : goal.returns-in_ok-clause-in-Some
returns-in_ok-clause-in-Some c =
    let x = c.in-Some.x in
    let p = out.maybe out.pacing x.pacing in
    let w = out.maybe (out.part is.When) x.when in
    let ps = c.as_slice.result.now in
    let same : (lex is.Spawn ∷ (p ++ w)) ++ out.with_parts ps ≡ out.maybe out.spawn c.args.x.now =
    ap (λ l. lex is.Spawn ∷ l) (append_assoc p w (out.with_parts ps)) ∙ ap (λ l. lex is.Spawn ∷ (p ++ (w ++ out.with_parts l))) c.as_slice.ensures
    ∙ ap (out.maybe out.spawn) (sym c.in-Some.is) in
    ends_more c.with_parts.result _ _ _ (lex is.Spawn ∷ (p ++ w)) (out.with_parts ps) (out.maybe out.spawn c.args.x.now) same c.in_ok-clause-in-Some.ensures c.with_parts.ensures
