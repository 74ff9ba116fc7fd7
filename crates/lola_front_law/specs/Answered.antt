-- Each text is answered.
use Rattle.std.specs.Prelude.{ℕ, ◌⊎◌, List}
use Rattle.lola_value.specs.declared.front.Refusal.{Refusal}
use Rattle.lola_model.specs.declared.plan.Plan.{Plan}
use Rattle.lola_front.specs.Front.{IsPlanOf, IsRefusalOf}

-- a text has a plan or a refusal
abbrev pub HasAnAnswer : List ℕ → Type 0
HasAnAnswer bytes = ((plan : Plan) × IsPlanOf bytes plan) ⊎ ((r : Refusal) × IsRefusalOf bytes r)

-- each text does
abbrev pub EachTextHasAnAnswer : Type 0
EachTextHasAnAnswer = (bytes : List ℕ) → HasAnAnswer bytes
