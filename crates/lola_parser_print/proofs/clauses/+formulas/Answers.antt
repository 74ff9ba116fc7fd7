use Rattle.std.proofs.Common.{◌∷◌, ◌++◌, ◌≡◌, sym, ap, ap₂, ◌∙◌}
use Rattle.std.specs.Prelude.{nat_lt}
use Rattle.lola_lexer.specs.declared.shape.TokenShape.TheVariants as is
use Rattle.lola_parser_print.specs.Print as out
use Rattle.lola_parser_print.specs.Print.{lex, bare_formula, print_formula}
use Rattle.lola_parser_print.proofs.Writing.{ends_more, adds_more, fitted_parts}
use Rattle.lola_parser_print.proofs.Formulas.{bare_formula-Both, bare_formula-Either}
use Rattle.lola_parser_print.proofs.clauses.+formulas.Goals as goal

pub bare_formula-returns-in_ok-formula-in-Both : goal.bare_formula-returns-in_ok-formula-in-Both
bare_formula-returns-in_ok-formula-in-Both t c =
    let b = c.in-Both in
    let x = c.get.result.now in
    let y = c.get-in-Both.result.now in
    let same : print_formula x 1 ++ (lex is.And ∷ print_formula y 2) ≡ bare_formula c.args.x.now =
    ap₂ (λ m n. print_formula m 1 ++ (lex is.And ∷ print_formula n 2)) c.get.ensures c.get-in-Both.ensures ∙ sym (bare_formula-Both b.field-0 b.x b.y) ∙ ap bare_formula (sym b.is) in
    ends_more c.behind.result _ _ _ (print_formula x 1) (lex is.And ∷ print_formula y 2) (bare_formula c.args.x.now) same c.in_ok-formula-in-Both.ensures c.behind.ensures

pub bare_formula-returns-in_ok-formula-in-Either : goal.bare_formula-returns-in_ok-formula-in-Either
bare_formula-returns-in_ok-formula-in-Either t c =
    let b = c.in-Either in
    let x = c.get-in-Either.result.now in
    let y = c.get-in-Either-2.result.now in
    let same : print_formula x 0 ++ (lex is.Or ∷ print_formula y 1) ≡ bare_formula c.args.x.now =
    ap₂ (λ m n. print_formula m 0 ++ (lex is.Or ∷ print_formula n 1)) c.get-in-Either.ensures c.get-in-Either-2.ensures ∙ sym (bare_formula-Either b.field-0 b.x b.y) ∙ ap bare_formula (sym b.is) in
    ends_more c.behind-in-Either.result _ _ _ (print_formula x 0) (lex is.Or ∷ print_formula y 1) (bare_formula c.args.x.now) same c.in_ok-formula-in-Either.ensures c.behind-in-Either.ensures

pub formula-returns : goal.formula-returns
formula-returns t c =
    let x = c.args.x.now in
    let needs = nat_lt c.formula_level.result c.args.k in
    let two = adds_more _ _ _ (out.opening needs) (bare_formula x) c.in_ok-open_if.ensures c.in_ok-bare_formula.ensures in
    let same : (out.opening needs ++ bare_formula x) ++ out.shutting needs ≡ print_formula x c.args.k =
    fitted_parts needs (bare_formula x) ∙ ap (λ n. out.fitted n c.args.k (bare_formula x)) c.formula_level.ensures in
    ends_more c.shut_if.result _ _ _ (out.opening needs ++ bare_formula x) (out.shutting needs) (print_formula x c.args.k) same two c.shut_if.ensures
