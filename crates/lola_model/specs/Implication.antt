-- When one pacing implies another: wherever the first is active, so is the second.
use Rattle.std.specs.Prelude.{ℕ, ◌≡◌, ◌*◌, ◌↔◌, List, Some, Bool, true, ◌&&◌, ◌||◌, nat_eq, All, AllPairs, IsTrue}
use Rattle.std.specs.Int.{bit_at}
use Rattle.lola_value.specs.Ratio.{Ratio}
use Rattle.lola_model.specs.Table.{Step}
use Rattle.lola_model.specs.Activity.{satisfies, satisfies_some, is_active}
use Rattle.lola_model.specs.StepOrder.{IsPositiveRate}
use Rattle.lola_model.specs.declared.pacing.InputSet.{InputSet}
use Rattle.lola_model.specs.declared.pacing.Pacing.{Pacing}
use Rattle.lola_model.specs.declared.pacing.Pacing.TheVariants.{Event, Periodic, Local}
use Rattle.lola_model.specs.declared.spec.Formula.{Formula}
use Rattle.lola_model.specs.declared.spec.Formula.TheVariants.{Input, And', Or'}

-- an input is in a set of inputs, whose bit i is input i
abbrev pub has_input : ℕ → ℕ → Bool
has_input inputs n = nat_eq (bit_at inputs n) 1

-- a set of inputs satisfies a formula
abbrev pub satisfies_formula : ℕ → Formula → Bool
satisfies_formula inputs (Input n) = has_input inputs n
satisfies_formula inputs (And' u a v b) = satisfies_formula inputs a && satisfies_formula inputs b
satisfies_formula inputs (Or' u a v b) = satisfies_formula inputs a || satisfies_formula inputs b

-- one set of inputs has all of another
abbrev pub IsWithin : InputSet → InputSet → Type 0
IsWithin s t = satisfies t.0 s ≡ true

-- neither of two sets has all of the other
abbrev pub AreApart : InputSet → InputSet → Type 0
AreApart s t = ¬ (IsWithin s t) × ¬ (IsWithin t s)

-- the least sets of inputs that pass a test: each passes, each set of inputs that passes has all of one
-- of them, and none has all of another
pub record AreLeastSets (passes : ℕ → Bool) (sets : List InputSet) : Type 0 where
  pub passing : All (λ (s : InputSet). passes s.0 ≡ true) sets
  pub enough : (inputs : ℕ) → passes inputs ≡ true → satisfies_some inputs sets ≡ true
  pub apart : AllPairs AreApart sets

-- the least sets that satisfy a formula
abbrev pub IsNormalFormOf : Formula → List InputSet → Type 0
IsNormalFormOf formula sets = AreLeastSets (λ inputs. satisfies_formula inputs formula) sets

-- a pacing whose rate, if it is one, is above 0
abbrev pub IsPacing : Pacing → Type 0
IsPacing (Event sets) = Unit {0}
IsPacing (Periodic r) = IsPositiveRate r
IsPacing (Local r) = IsPositiveRate r

-- each set of inputs that satisfies the one satisfies the other
abbrev pub FormulaImplies : Formula → Formula → Type 0
FormulaImplies f g = (inputs : ℕ) → satisfies_formula inputs f ≡ true → satisfies_formula inputs g ≡ true

-- a rate is a whole number of times another, which it goes on the right of: q / r is whole
abbrev pub IsWholeMultipleOf : Ratio → Ratio → Type 0
IsWholeMultipleOf q r = (times : ℕ) × (q.num * r.den ≡ times * (q.den * r.num))

-- pacings by inputs: each set of inputs that satisfies the first satisfies the second; rates: the second is a
-- whole multiple of the first; neither sort implies the other, and a local rate implies nothing and is implied by nothing
abbrev pub Implies : Pacing → Pacing → Type 0
Implies (Event a) (Event b) = (inputs : ℕ) → satisfies_some inputs a ≡ true → satisfies_some inputs b ≡ true
Implies (Periodic r) (Periodic q) = IsWholeMultipleOf q r
Implies (Event a) (Periodic q) = ⊥
Implies (Periodic r) (Event b) = ⊥
Implies (Local r) q = ⊥
Implies p (Local q) = ⊥

-- what implication means of two pacings
pub record MeansImplication (p q : Pacing) : Type 0 where
  -- in each step in which the first is active, so is the second
  pub active : IsPacing p → IsPacing q → Implies p q → (start : ℕ) (step : Step) → IsTrue (is_active start step (Some p)) → IsTrue (is_active start step (Some q))
  -- of normal forms it is told by their sets: each of the first has all of one of the second
  pub by_sets : (a b : List InputSet) → p ≡ Event a → q ≡ Event b → Implies p q ↔ All (λ (s : InputSet). satisfies_some s.0 b ≡ true) a
  -- of formulas it is told by their normal forms
  pub by_formulas : (f g : Formula) (a b : List InputSet) → p ≡ Event a → q ≡ Event b → IsNormalFormOf f a → IsNormalFormOf g b → FormulaImplies f g ↔ Implies p q
