use Rattle.std.proofs.Common.{refl, subst, sym, Err}
use Rattle.std.proofs.lemmas.Result.{err_from_is_err_and}
use Rattle.lola_model.specs.declared.spec.Formula.{Formula, And, Or}
use Rattle.lola_model.specs.NormalForms.{ListsNormalForm}
use Rattle.lola_pacing_normal.specs.Formulas.{AnswersNormal}
use Rattle.lola_pacing_normal.proofs.FormulaLemmas.{normal_input, normal_and, normal_or, end_of_left, end_of_right}
use Rattle.lola_pacing_normal.proofs.normal.+normal.Goals as goal

pub returns-in_err-first-in-And : goal.returns-in_err-first-in-And
returns-in_err-first-in-And t c =
    let p = err_from_is_err_and c.from_residual.result c.from_residual.ensures.1 in
    rw (p.1, p.2)
    (subst (λ (f : Formula). AnswersNormal f (Err c.in_err-first-in-And.field-0.0)) (sym c.in-And.is)
    (end_of_left (And c.in-And.first c.in-And.second) c.in-And.first.value c.in-And.second.value c.in_err-first-in-And.field-0.0 refl (subst (λ (f : Formula). AnswersNormal f (Err c.in_err-first-in-And.field-0.0)) c.deref.ensures c.in_err-first-in-And.ensures)))

pub returns-in_err-second-in-And : goal.returns-in_err-second-in-And
returns-in_err-second-in-And t c =
    let p = err_from_is_err_and c.from_residual-in_err-second-in-And.result c.from_residual-in_err-second-in-And.ensures.1 in
    rw (p.1, p.2)
    (subst (λ (f : Formula). AnswersNormal f (Err c.in_err-second-in-And.field-0.0)) (sym c.in-And.is)
    (end_of_right (And c.in-And.first c.in-And.second) c.in-And.first.value c.in-And.second.value c.in_err-second-in-And.field-0.0 refl (subst (λ (f : Formula). AnswersNormal f (Err c.in_err-second-in-And.field-0.0)) c.deref-in-And.ensures c.in_err-second-in-And.ensures)))

pub returns-in_err-first-in-Or : goal.returns-in_err-first-in-Or
returns-in_err-first-in-Or t c =
    let p = err_from_is_err_and c.from_residual-in_err-first-in-Or.result c.from_residual-in_err-first-in-Or.ensures.1 in
    rw (p.1, p.2)
    (subst (λ (f : Formula). AnswersNormal f (Err c.in_err-first-in-Or.field-0.0)) (sym c.in-Or.is)
    (end_of_left (Or c.in-Or.first c.in-Or.second) c.in-Or.first.value c.in-Or.second.value c.in_err-first-in-Or.field-0.0 refl (subst (λ (f : Formula). AnswersNormal f (Err c.in_err-first-in-Or.field-0.0)) c.deref-in-Or.ensures c.in_err-first-in-Or.ensures)))

pub returns-in_err-second-in-Or : goal.returns-in_err-second-in-Or
returns-in_err-second-in-Or t c =
    let p = err_from_is_err_and c.from_residual-in_err-second-in-Or.result c.from_residual-in_err-second-in-Or.ensures.1 in
    rw (p.1, p.2)
    (subst (λ (f : Formula). AnswersNormal f (Err c.in_err-second-in-Or.field-0.0)) (sym c.in-Or.is)
    (end_of_right (Or c.in-Or.first c.in-Or.second) c.in-Or.first.value c.in-Or.second.value c.in_err-second-in-Or.field-0.0 refl (subst (λ (f : Formula). AnswersNormal f (Err c.in_err-second-in-Or.field-0.0)) c.deref-in-Or-2.ensures c.in_err-second-in-Or.ensures)))

pub returns-in-Input : goal.returns-in-Input
returns-in-Input t c = rw c.in-Input.is (normal_input c.in-Input.input c.single.result c.single.ensures)

pub returns-in_ok-second-in-And : goal.returns-in_ok-second-in-And
returns-in_ok-second-in-And t c =
    rw c.in-And.is
    (normal_and (And c.in-And.first c.in-And.second) c.in-And.first.value c.in-And.second.value c.in_ok-first-in-And.first c.in_ok-second-in-And.second c.conjunction.result refl (λ inputs. refl)
    (subst (λ (f : Formula). ListsNormalForm f c.in_ok-first-in-And.first) c.deref.ensures c.in_ok-first-in-And.ensures)
    (subst (λ (f : Formula). ListsNormalForm f c.in_ok-second-in-And.second) c.deref-in-And.ensures c.in_ok-second-in-And.ensures)
    c.conjunction.ensures)

pub returns-in_ok-second-in-Or : goal.returns-in_ok-second-in-Or
returns-in_ok-second-in-Or t c =
    rw c.in-Or.is
    (normal_or (Or c.in-Or.first c.in-Or.second) c.in-Or.first.value c.in-Or.second.value c.in_ok-first-in-Or.first c.in_ok-second-in-Or.second c.disjunction.result refl (λ inputs. refl)
    (subst (λ (f : Formula). ListsNormalForm f c.in_ok-first-in-Or.first) c.deref-in-Or.ensures c.in_ok-first-in-Or.ensures)
    (subst (λ (f : Formula). ListsNormalForm f c.in_ok-second-in-Or.second) c.deref-in-Or-2.ensures c.in_ok-second-in-Or.ensures)
    c.disjunction.ensures)
