-- Formulas in pacings are over the inputs that a specification may have.
use Rattle.std.specs.Prelude.{List, [], ◌∷◌, Option, Some, None}
use Rattle.lola_model.specs.declared.spec.Clause.{Clause}
use Rattle.lola_model.specs.declared.spec.Pace.{Pace}
use Rattle.lola_model.specs.declared.spec.Pace.TheVariants as pace
use Rattle.lola_model.specs.declared.spec.Stream.{Stream}
use Rattle.lola_model.specs.NormalForms.{HasInputsBelow}

-- a pacing's formula names inputs below 64
abbrev pub IsOverInputs : Pace → Type 0
IsOverInputs (pace.Event at f) = HasInputsBelow 64 f
IsOverInputs (pace.Rate at r) = Unit {0}
IsOverInputs (pace.Global at r) = Unit {0}
IsOverInputs (pace.Local at r) = Unit {0}

abbrev pub IsPaceOverInputs : Option Pace → Type 0
IsPaceOverInputs None = Unit {0}
IsPaceOverInputs (Some p) = IsOverInputs p

abbrev pub IsClauseOverInputs : Option Clause → Type 0
IsClauseOverInputs None = Unit {0}
IsClauseOverInputs (Some c) = IsPaceOverInputs c.pace

-- so do those of all clauses
abbrev pub AreOverInputs : List Stream → Type 0
AreOverInputs [] = Unit {0}
AreOverInputs (s ∷ ss) = IsClauseOverInputs s.spawn × IsClauseOverInputs s.eval × IsClauseOverInputs s.close × AreOverInputs ss
