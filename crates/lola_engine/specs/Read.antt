-- What is read of a row's fields, and the numbers of literals.
use Rattle.std.specs.Prelude.{ℕ, ◌≡◌, ◌+◌, List, [], ◌∷◌, ◌++◌, Some, IsTrue, take}
use Rattle.lola_value.specs.declared.text.Field.{Field}
use Rattle.lola_value.specs.declared.value.Kind.{Kind}
use Rattle.lola_value.specs.declared.value.Outcome.{Outcome}
use Rattle.lola_value.specs.Naming.{IsHeldIn, Naming, read_outcome}
use Rattle.lola_model.specs.Model.{field_outcome}
use Rattle.lola_model.specs.Trace.{IsFieldOf}
use Rattle.lola_step.specs.Steps.{is_input_outcome}

-- the outcome of a field: it reads so, its text is held, and it is of each kind that the field is of
pub record IsOutcomeOf (names : Naming) (o : Outcome) (f : Field) : Type 0 where
  pub reads : read_outcome names o ≡ field_outcome (Some f)
  pub held : IsHeldIn names o
  pub kind : (k : Kind) → IsFieldOf k f → IsTrue (is_input_outcome k o)

-- the outcome of a field was put at a place, behind those that stood before it
pub record IsReadAt (names : Naming) (f : Field) (place : ℕ) (old new : List Outcome) : Type 0 where
  pub outcome : Outcome
  pub is : IsOutcomeOf names outcome f
  pub pushed : take (place + 1) new ≡ take place old ++ outcome ∷ []

-- texts by their places, counted from n
abbrev pub numbered : ℕ → List (List ℕ) → Naming
numbered n [] = []
numbered n (t ∷ ts) = (n, t) ∷ numbered (n + 1) ts
