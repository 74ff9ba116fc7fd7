use Rattle.std.proofs.Common.{List, ◌≡◌, ◌++◌, ◌+◌, take, subst, sym, ap, ◌∙◌}
use Rattle.lola_parser_grammar.specs.Syntax.{Lexeme}
use Rattle.lola_parser_print.specs.Print as out
use Rattle.lola_parser_print.proofs.Writing.{adds_more, each_more}
use Rattle.lola_parser_print.proofs.declarations.further_typed.Goals as goal

pub loop-x-preserved : goal.loop-x-preserved
loop-x-preserved c =
    let xs = c.args.xs.now in
    let x = c.x-item.result in
    let front = out.further_typed (take c.loop-x.x-index xs) in
    let same : front ++ out.behind_comma x ≡ out.further_typed (take (c.loop-x.x-index + 1) xs) =
    ap (λ z. front ++ out.behind_comma z) c.x-item.is ∙ sym (each_more (out.behind_comma) xs c.loop-x.x-index x c.loop-x-test.true) in
    subst (λ (ts : List Lexeme). out.Adds ts c.args.to.now c.behind_comma.new.to) same (adds_more _ _ _ front (out.behind_comma x) c.loop-x.invariant c.in_ok-behind_comma.ensures)
