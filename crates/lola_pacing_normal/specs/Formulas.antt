-- What a call answers that looks for the normal form of a formula.
use Rattle.std.specs.Prelude.{◌≡◌, List, Any, Result, Ok, Err}
use Rattle.lola_model.specs.Implication.{FormulaImplies}
use Rattle.lola_model.specs.NormalForms.{IsWide, ListsNormalForm, parts_of}
use Rattle.lola_model.specs.declared.pacing.InputSet.{InputSet}
use Rattle.lola_model.specs.declared.spec.Formula.{Formula}
use Rattle.lola_pacing_normal.specs.declared.answer.NormalEnd.{NormalEnd}
use Rattle.lola_pacing_normal.specs.declared.answer.NormalEnd.TheVariants.{TooWide, Memory}

-- that list, or that some part is wide
abbrev pub AnswersNormal : Formula → Result (List InputSet) NormalEnd → Type 0
AnswersNormal f (Ok sets) = ListsNormalForm f sets
AnswersNormal f (Err TooWide) = Any IsWide (parts_of f)
AnswersNormal f (Err Memory) = Unit {0}

-- formulas that imply each other have one list
pub record HasOneNormalForm : Type 0 where
  pub same : (f g : Formula) (a b : List InputSet) → ListsNormalForm f a → ListsNormalForm g b → FormulaImplies f g → FormulaImplies g f → a ≡ b
