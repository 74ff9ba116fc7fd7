use Rattle.std.proofs.Common.{sym, subst}
use Rattle.lola_parser_grammar.specs.declared.pacing.Formula.{Formula as TreeFormula}
use Rattle.lola_model.specs.declared.spec.Formula.{Formula}
use Rattle.lola_model.specs.declared.spec.Formula.TheVariants as m
use Rattle.lola_names.specs.Made.{IsFormulaBy}
use Rattle.lola_names.proofs.TreeLemmas.{formula_carried, formula-Both, formula-Either}
use Rattle.lola_names.proofs.pacings.+formula.Goals as goal

pub returns-in_ok-b-in-Both : goal.returns-in_ok-b-in-Both
returns-in_ok-b-in-Both t c =
    let b = c.in-Both in
    let table = c.args.targets.now in
    let p = c.in_ok-a-in-Both in
    let q = c.in_ok-b-in-Both in
    let first = c.in_ok-first-in-Both in
    let second = c.in_ok-second-in-Both in
    let r : Formula = m.And p.a q.b in
    subst (λ (x : TreeFormula). IsFormulaBy table x r) (sym b.is)
    (formula-Both table b.field-0 b.x b.y _ p.a.value _ q.b.value
    (formula_carried table b.x c.get.result.now first.first p.a.value c.get.ensures p.ensures first.ensures)
    (formula_carried table b.y c.get-in-Both.result.now second.second q.b.value c.get-in-Both.ensures q.ensures second.ensures))

pub returns-in_ok-b-in-Either : goal.returns-in_ok-b-in-Either
returns-in_ok-b-in-Either t c =
    let b = c.in-Either in
    let table = c.args.targets.now in
    let p = c.in_ok-a-in-Either in
    let q = c.in_ok-b-in-Either in
    let first = c.in_ok-first-in-Either in
    let second = c.in_ok-second-in-Either in
    let r : Formula = m.Or p.a q.b in
    subst (λ (x : TreeFormula). IsFormulaBy table x r) (sym b.is)
    (formula-Either table b.field-0 b.x b.y _ p.a.value _ q.b.value
    (formula_carried table b.x c.get-in-Either.result.now first.first p.a.value c.get-in-Either.ensures p.ensures first.ensures)
    (formula_carried table b.y c.get-in-Either-2.result.now second.second q.b.value c.get-in-Either-2.ensures q.ensures second.ensures))
