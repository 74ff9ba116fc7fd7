use Rattle.std.proofs.Common.{List, ◌≡◌, ◌++◌, ◌+◌, take, subst, sym, ap, ◌∙◌}
use Rattle.lola_lexer.specs.declared.shape.TokenShape.TheVariants as is
use Rattle.lola_parser_grammar.specs.Syntax.{Lexeme}
use Rattle.lola_parser_print.specs.Print as out
use Rattle.lola_parser_print.proofs.Writing.{adds_more, each_more}
use Rattle.lola_parser_print.proofs.clauses.further_parts.Goals as goal

pub loop-x-preserved : goal.loop-x-preserved
loop-x-preserved c =
    let xs = c.args.parts.now in
    let x = c.x-item.result in
    let front = out.further_parts (take c.loop-x.x-index xs) in
    let same : front ++ out.part is.Comma x ≡ out.further_parts (take (c.loop-x.x-index + 1) xs) =
    ap (λ z. front ++ out.part is.Comma z) c.x-item.is ∙ sym (each_more (out.part is.Comma) xs c.loop-x.x-index x c.loop-x-test.true) in
    subst (λ (ts : List Lexeme). out.Adds ts c.args.to.now c.part.new.to) same (adds_more _ _ _ front (out.part is.Comma x) c.loop-x.invariant c.in_ok-part.ensures)
