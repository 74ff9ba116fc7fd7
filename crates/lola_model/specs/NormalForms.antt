-- Least sets of inputs, in order, and the normal forms of formulas.
use Rattle.std.specs.Prelude.{ℕ, ◌<◌, List, [], ◌∷◌, ◌++◌, Bool, All, AllPairs, length}
use Rattle.lola_model.specs.Implication.{AreLeastSets, IsNormalFormOf, satisfies_formula}
use Rattle.lola_model.specs.InputOrder.{ComesBefore}
use Rattle.lola_model.specs.declared.pacing.InputSet.{InputSet}
use Rattle.lola_model.specs.declared.spec.Formula.{Formula}
use Rattle.lola_model.specs.declared.spec.Formula.TheVariants.{Input, And', Or'}

-- more than 256 least sets pass a test
pub record IsTooWide (passes : ℕ → Bool) : Type 0 where
  pub sets : List InputSet
  pub least : AreLeastSets passes sets
  pub many : 256 < length sets

-- the list of the least sets that pass a test, in the order of their lists of inputs; it has at most 256
pub record ListsLeast (passes : ℕ → Bool) (sets : List InputSet) : Type 0 where
  pub least : AreLeastSets passes sets
  pub ordered : AllPairs ComesBefore sets
  pub narrow : ¬ (IsTooWide passes)

-- the inputs of a formula have numbers below a limit
abbrev pub HasInputsBelow : ℕ → Formula → Type 0
HasInputsBelow limit (Input n) = n < limit
HasInputsBelow limit (And' u a v b) = HasInputsBelow limit a × HasInputsBelow limit b
HasInputsBelow limit (Or' u a v b) = HasInputsBelow limit a × HasInputsBelow limit b

-- the parts of a formula, itself in front
abbrev pub parts_of : Formula → List Formula
parts_of (Input n) = Input n ∷ []
parts_of (And' u a v b) = And' u a v b ∷ (parts_of a ++ parts_of b)
parts_of (Or' u a v b) = Or' u a v b ∷ (parts_of a ++ parts_of b)

-- the normal form of a formula has more than 256 sets
abbrev pub IsWide : Formula → Type 0
IsWide f = IsTooWide (λ inputs. satisfies_formula inputs f)

-- the normal form of a formula, in the order of its sets' lists of inputs; no part of the formula is wide
pub record ListsNormalForm (f : Formula) (sets : List InputSet) : Type 0 where
  pub least : IsNormalFormOf f sets
  pub ordered : AllPairs ComesBefore sets
  pub narrow : All (λ (part : Formula). ¬ (IsWide part)) (parts_of f)
