-- Why no run goes on from a state, or none is saved, and the end lines that tell it.
use Rattle.std.specs.Prelude.{ℕ, List, ◌++◌, codes, decimal}
use Rattle.lola_model.specs.declared.plan.Plan.{Plan}
use Rattle.lola_save_text.specs.Damage.{IsDamagedAt, IsOtherSpec, IsStateText}
use Rattle.lola_save.specs.declared.end.StateEnd.{StateEnd}
use Rattle.lola_save.specs.declared.end.StateEnd.TheVariants as end

-- the line for a damaged state
abbrev pub damaged_text : ℕ → List ℕ
damaged_text line = codes "= damaged state line " ++ (decimal line ++ codes "\n")

-- the line for an end
abbrev pub state_end_text : StateEnd → List ℕ
state_end_text end.Unreadable = codes "= unreadable state\n"
state_end_text (end.Damaged line) = damaged_text line
state_end_text end.OtherSpecification = codes "= state of another specification\n"
state_end_text end.TooManySteps = codes "= too many steps\n"

-- these bytes are no state text of a plan of this specification: they are of another one, or else damaged at this line
abbrev pub IsRefusedState : List ℕ → Plan → List ℕ → StateEnd → Type 0
IsRefusedState specification plan bytes end.Unreadable = ⊥
IsRefusedState specification plan bytes (end.Damaged line) = (IsOtherSpec specification bytes → ⊥) × IsDamagedAt specification plan bytes line
IsRefusedState specification plan bytes end.OtherSpecification = IsOtherSpec specification bytes × (IsStateText specification plan bytes → ⊥)
IsRefusedState specification plan bytes end.TooManySteps = ⊥
