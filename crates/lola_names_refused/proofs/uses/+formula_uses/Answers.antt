use Rattle.std.proofs.Common.{◌≡◌, ◌++◌, List, subst, sym, ap, ap₂, ◌∙◌}
use Rattle.lola_value.specs.declared.front.Refusal.{Refusal}
use Rattle.lola_names_refused.specs.Noted.{Finds}
use Rattle.lola_names_refused.specs.Refused.{formula_uses}
use Rattle.lola_names_refused.proofs.Noting.{finds_more}
use Rattle.lola_names_refused.proofs.Trees.{formula-Both, formula-Either}
use Rattle.lola_names_refused.proofs.uses.+formula_uses.Goals as goal

pub returns-in-Both : goal.returns-in-Both
returns-in-Both t c =
    let b = c.in-Both in
    let ns = c.args.names.now in
    let x = c.get.result.now in
    let y = c.get-in-Both.result.now in
    let same : formula_uses ns x ++ formula_uses ns y ≡ formula_uses ns c.args.x.now =
    ap₂ (λ m n. formula_uses ns m ++ formula_uses ns n) c.get.ensures c.get-in-Both.ensures ∙ sym (formula-Both ns b.field-0 b.x b.y) ∙ ap (formula_uses ns) (sym b.is) in
    subst (λ (rs : List Refusal). Finds rs c.args.found.now c.formula_uses-in-Both.new.found) same
    (finds_more _ _ _ (formula_uses ns x) (formula_uses ns y) c.formula_uses.ensures c.formula_uses-in-Both.ensures)

pub returns-in-Either : goal.returns-in-Either
returns-in-Either t c =
    let b = c.in-Either in
    let ns = c.args.names.now in
    let x = c.get-in-Either.result.now in
    let y = c.get-in-Either-2.result.now in
    let same : formula_uses ns x ++ formula_uses ns y ≡ formula_uses ns c.args.x.now =
    ap₂ (λ m n. formula_uses ns m ++ formula_uses ns n) c.get-in-Either.ensures c.get-in-Either-2.ensures ∙ sym (formula-Either ns b.field-0 b.x b.y) ∙ ap (formula_uses ns) (sym b.is) in
    subst (λ (rs : List Refusal). Finds rs c.args.found.now c.formula_uses-in-Either-2.new.found) same
    (finds_more _ _ _ (formula_uses ns x) (formula_uses ns y) c.formula_uses-in-Either.ensures c.formula_uses-in-Either-2.ensures)
