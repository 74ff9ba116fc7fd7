-- Values in the order of their times.
use Rattle.std.specs.Prelude.{ℕ, ◌≤◌, List, [], ◌∷◌}
use Rattle.std.specs.List.{AllByRecursion}
use Rattle.lola_value.specs.declared.text.Field.{Field}

-- no value has a time above a later one's
abbrev pub AreInOrder : List (ℕ × Field) → Type 0
AreInOrder [] = Unit {0}
AreInOrder (v ∷ vs) = AllByRecursion (λ w. v.0 ≤ w.0) vs × AreInOrder vs

-- nor one above this
pub record AreUpTo (most : ℕ) (values : List (ℕ × Field)) : Type 0 where
  pub in_order : AreInOrder values
  pub most_is : AllByRecursion (λ v. v.0 ≤ most) values
