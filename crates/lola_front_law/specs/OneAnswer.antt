-- A text is answered with one plan or with one refusal.
use Rattle.std.specs.Prelude.{ℕ, ◌≡◌, List}
use Rattle.lola_value.specs.declared.front.Refusal.{Refusal}
use Rattle.lola_model.specs.declared.plan.Plan.{Plan}
use Rattle.lola_front_law.specs.Alike.{ArePlansAlike}
use Rattle.lola_front_law.specs.Meaning.{HaveSameEntries, HaveSameModels, HaveSameVerdicts}
use Rattle.lola_front.specs.Front.{IsPlanOf, IsRefusalOf}

-- a text that has a plan has no refusal, and its plans differ in addresses alone; one that has a refusal has it alone, whichever phase
-- refuses
pub record HasOneAnswer (bytes : List ℕ) : Type 0 where
  pub is_either : (plan : Plan) (r : Refusal) → IsPlanOf bytes plan → IsRefusalOf bytes r → ⊥
  pub one_refusal : (r q : Refusal) → IsRefusalOf bytes r → IsRefusalOf bytes q → r ≡ q
  pub one_plan : (plan other : Plan) → IsPlanOf bytes plan → IsPlanOf bytes other → ArePlansAlike plan other

abbrev pub AnswersAreOne : Type 0
AnswersAreOne = (bytes : List ℕ) → HasOneAnswer bytes

-- two plans mean the same: of the same journals, with the same tables, lines and faults
pub record MeanTheSame (plan other : Plan) : Type 0 where
  pub entries : HaveSameEntries plan other
  pub models : HaveSameModels plan other
  pub verdicts : HaveSameVerdicts plan other

-- all plans of a text do
abbrev pub MeaningsAreOne : Type 0
MeaningsAreOne = (bytes : List ℕ) (plan other : Plan) → IsPlanOf bytes plan → IsPlanOf bytes other → MeanTheSame plan other
