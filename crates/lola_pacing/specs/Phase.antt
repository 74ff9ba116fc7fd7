-- What the phase answers that finds the pacings of all clauses.
use Rattle.std.specs.Prelude.{List, Result, Ok, Err}
use Rattle.lola_value.specs.declared.front.FrontEnd.{FrontEnd}
use Rattle.lola_value.specs.declared.front.FrontEnd.TheVariants as front_end
use Rattle.lola_model.specs.Pacings.{ArePacings, IsRefused}
use Rattle.lola_model.specs.declared.pacing.ClausePacings.{ClausePacings}
use Rattle.lola_model.specs.declared.spec.Spec.{Spec}

-- what the phase answers
abbrev pub AnswersPacing : Spec → Result (List ClausePacings) FrontEnd → Type 0
AnswersPacing spec (Ok pacings) = ArePacings spec pacings
AnswersPacing spec (Err (front_end.Refused r)) = IsRefused spec r
AnswersPacing spec (Err front_end.Memory) = Unit {0}
