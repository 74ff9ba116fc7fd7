-- For pacings a text has one refusal, or one list of pacings.
use Rattle.std.specs.Prelude.{ℕ, ◌≡◌, ◌<◌, List, [], ◌∷◌, Option, Some, None}
use Rattle.lola_value.specs.Rate.{IsLowest}
use Rattle.lola_value.specs.Ratio.{Ratio}
use Rattle.lola_value.specs.declared.front.Refusal.{Refusal}
use Rattle.lola_model.specs.Pacings.{ArePacings, IsRefused}
use Rattle.lola_model.specs.declared.pacing.ClausePacings.{ClausePacings}
use Rattle.lola_model.specs.declared.plan.Plan.{Plan}
use Rattle.lola_model.specs.declared.spec.Clause.{Clause}
use Rattle.lola_model.specs.declared.spec.Pace.{Pace}
use Rattle.lola_model.specs.declared.spec.Pace.TheVariants as pace
use Rattle.lola_model.specs.declared.spec.Spec.{Spec}
use Rattle.lola_model.specs.declared.spec.Stream.{Stream}
use Rattle.lola_model.specs.declared.spec.WrittenRate.{WrittenRate}
use Rattle.lola_model.specs.declared.spec.WrittenRate.TheVariants as rate
use Rattle.lola_front.specs.Front.{IsFull, IsPlanOf, IsPacingRefusal, IsCycleRefusal}

-- a rate in lowest terms
pub record IsLowestRate (r : Ratio) : Type 0 where
  pub den : 0 < r.den
  pub lowest : IsLowest r

abbrev pub IsLowestWritten : WrittenRate → Type 0
IsLowestWritten rate.OutOfRange = Unit {0}
IsLowestWritten rate.TooFast = Unit {0}
IsLowestWritten (rate.Of r) = IsLowestRate r

-- so is a rate that counts from the start of the run; one that counts from a birth is compared with no other
abbrev pub IsLowestPace : Option Pace → Type 0
IsLowestPace None = Unit {0}
IsLowestPace (Some (pace.Event at f)) = Unit {0}
IsLowestPace (Some (pace.Rate at w)) = IsLowestWritten w
IsLowestPace (Some (pace.Global at w)) = IsLowestWritten w
IsLowestPace (Some (pace.Local at w)) = Unit {0}

abbrev pub IsLowestClause : Option Clause → Type 0
IsLowestClause None = Unit {0}
IsLowestClause (Some c) = IsLowestPace c.pace

-- so are those of the eval clauses of streams, which other clauses may take
abbrev pub AreLowest : List Stream → Type 0
AreLowest [] = Unit {0}
AreLowest (s ∷ ss) = IsLowestClause s.eval × AreLowest ss

-- a specification has one list of pacings or one refusal for pacings, never both
pub record HasOneFinding (full : Spec) : Type 0 where
  pub one_list : (ps qs : List ClausePacings) → ArePacings full ps → ArePacings full qs → ps ≡ qs
  pub is_either : (ps : List ClausePacings) (r : Refusal) → ArePacings full ps → IsRefused full r → ⊥
  pub one_refusal : (r q : Refusal) → IsRefused full r → IsRefused full q → r ≡ q

-- each does whose rates are in lowest terms; else two fractions of one number could both be the least rate
abbrev pub FindingsAreOne : Type 0
FindingsAreOne = (full : Spec) → AreLowest full.streams → HasOneFinding full

-- The clauses of all specifications that a text is resolved to, kinds filled in, have one list of pacings, or the text has one
-- refusal for pacings, never both. A text that is so refused has no plan, and no refusal for a closed walk.
pub record HasOnePacing (bytes : List ℕ) : Type 0 where
  pub one_list : (full other : Spec) (ps qs : List ClausePacings) → IsFull bytes full → IsFull bytes other → ArePacings full ps → ArePacings other qs → ps ≡ qs
  pub is_either : (full : Spec) (ps : List ClausePacings) (r : Refusal) → IsFull bytes full → ArePacings full ps → IsPacingRefusal bytes r → ⊥
  pub one_refusal : (r q : Refusal) → IsPacingRefusal bytes r → IsPacingRefusal bytes q → r ≡ q
  pub no_plan : (plan : Plan) (r : Refusal) → IsPlanOf bytes plan → IsPacingRefusal bytes r → ⊥
  pub no_later : (q r : Refusal) → IsCycleRefusal bytes q → IsPacingRefusal bytes r → ⊥

abbrev pub PacingsAreOne : Type 0
PacingsAreOne = (bytes : List ℕ) → HasOnePacing bytes
