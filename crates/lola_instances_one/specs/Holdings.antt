-- What an instance holds, and what it shows of it.
use Rattle.std.specs.Prelude.{ℕ, List, [], ◌∷◌, Option, Some, None, nat_eq, if◌then◌else◌, IsTrue}
use Rattle.lola_value.specs.declared.value.Kind.{Kind}
use Rattle.lola_value.specs.declared.value.Value.{Value}
use Rattle.lola_value.specs.declared.value.Params.{Params}
use Rattle.lola_value.specs.declared.value.Outcome.{Outcome}
use Rattle.lola_value.specs.declared.value.Outcome.TheVariants as outcome
use Rattle.lola_value.specs.Kinds.{is_of_kind}
use Rattle.lola_model.specs.Store.{SeenInstance}
use Rattle.lola_buffer.specs.Kept.{Kept}
use Rattle.lola_panes.specs.Standing.{Partials}

-- its parameters, the time of its birth, the step that its outcome belongs to, from 1, the outcome, its last values, and
-- the panes of each window onto its stream; this step's value is among the last values and in the panes
pub record Holdings : Type 0 where
  pub params : Params
  pub born : ℕ
  pub stamp : ℕ
  pub outcome : Outcome
  pub ring : Kept
  pub panes : List Partials

-- the same, written as a row
abbrev pub holdings : Params → ℕ → ℕ → Outcome → Kept → List Partials → Holdings
holdings params born stamp o ring panes = record { params = params; born = born; stamp = stamp; outcome = o; ring = ring; panes = panes }

-- an outcome of an earlier step is none of this one
abbrev pub shown : ℕ → Holdings → Outcome
shown step s = if nat_eq s.stamp step then s.outcome else outcome.Missing

-- what others see of it in the step of a number
abbrev pub slot_seen : ℕ → Holdings → SeenInstance
slot_seen step s = record { params = s.params; born = s.born; outcome = shown step s }

-- a value, if there is one
abbrev pub value_or_missing : Option Value → Outcome
value_or_missing None = outcome.Missing
value_or_missing (Some v) = outcome.Value v

-- values of a kind
abbrev pub AllOf : Kind → List Value → Type 0
AllOf k [] = Unit {0}
AllOf k (v ∷ vs) = IsTrue (is_of_kind k v) × AllOf k vs
