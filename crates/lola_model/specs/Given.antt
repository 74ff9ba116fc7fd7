-- How the instances of a stream are given what they come to.
use Rattle.std.specs.Prelude.{ℕ, List, [], ◌∷◌, IsTrue}
use Rattle.lola_value.specs.declared.value.Kind.{Kind}
use Rattle.lola_value.specs.declared.value.Outcome.{Outcome}
use Rattle.lola_value.specs.declared.value.Outcome.TheVariants as outcome
use Rattle.lola_value.specs.Kinds.{is_outcome_of}
use Rattle.lola_value.specs.Naming.{Naming, IsHeldIn}
use Rattle.lola_model.specs.Store.{Seen, SeenInstance, changed_at, told_at}

-- each is an outcome of a kind
abbrev pub AreOutcomesOf : Kind → List Outcome → Type 0
AreOutcomesOf k [] = Unit {0}
AreOutcomesOf k (r ∷ rs) = IsTrue (is_outcome_of k r) × AreOutcomesOf k rs

-- the naming has the texts of all these outcomes
abbrev pub AreHeldIn : Naming → List Outcome → Type 0
AreHeldIn names [] = Unit {0}
AreHeldIn names (r ∷ rs) = IsHeldIn names r × AreHeldIn names rs

-- an instance that comes to this: others see a fault as poison, and where there is no value it is as it was
abbrev pub given : SeenInstance → Outcome → SeenInstance
given x (outcome.Value v) = record { params = x.params; born = x.born; outcome = outcome.Value v }
given x outcome.Missing = x
given x (outcome.Fault k) = record { params = x.params; born = x.born; outcome = outcome.Poison }
given x outcome.Poison = record { params = x.params; born = x.born; outcome = outcome.Poison }

-- each instance with what it comes to, as far as it is known
abbrev pub given_each : List SeenInstance → List Outcome → List SeenInstance
given_each (x ∷ xs) (r ∷ rs) = given x r ∷ given_each xs rs
given_each xs _ = xs

-- after `give_each`
abbrev pub after_each : Seen → ℕ → List Outcome → Seen
after_each s n rs = record s { streams = changed_at s.streams n (λ x. record x { instances = given_each x.instances rs }) }

-- the instances with what the one at a place comes to
abbrev pub given_at : List SeenInstance → ℕ → Outcome → List SeenInstance
given_at xs i (outcome.Value v) = told_at xs i (outcome.Value v)
given_at xs i outcome.Missing = xs
given_at xs i (outcome.Fault k) = told_at xs i outcome.Poison
given_at xs i outcome.Poison = told_at xs i outcome.Poison

-- after one of them was given what it comes to
abbrev pub after_given : Seen → ℕ → ℕ → Outcome → Seen
after_given s n i r = record s { streams = changed_at s.streams n (λ x. record x { instances = given_at x.instances i r }) }
