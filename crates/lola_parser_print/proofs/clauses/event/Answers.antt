use Rattle.std.proofs.Common.{◌++◌, sym, ◌∙◌}
use Rattle.lola_parser_print.specs.Print as out
use Rattle.lola_parser_print.specs.Print.{lex, spelled_out}
use Rattle.lola_parser_print.proofs.Writing.{ends_more, adds_more, fitted_parts}
use Rattle.lola_parser_print.proofs.clauses.event.Goals as goal

pub returns : goal.returns
returns c =
    let x = c.args.x.now in
    let needs = c.is_bracketed-needs.result in
    let two = adds_more _ _ _ (out.opening needs) (out.bare_formula x) c.in_ok-open_if.ensures c.in_ok-bare_formula.ensures in
    ends_more c.shut_if.result _ _ _ (out.opening needs ++ out.bare_formula x) (out.shutting needs) (out.event x)
    (fitted_parts needs (out.bare_formula x) ∙ sym c.is_bracketed-needs.ensures) two c.shut_if.ensures
