-- Specifications whose written rates are rates.
use Rattle.std.specs.Prelude.{List, [], ◌∷◌, Option, Some, None}
use Rattle.lola_model.specs.StepOrder.{IsPositiveRate}
use Rattle.lola_model.specs.declared.spec.Clause.{Clause}
use Rattle.lola_model.specs.declared.spec.Pace.{Pace}
use Rattle.lola_model.specs.declared.spec.Pace.TheVariants as pace
use Rattle.lola_model.specs.declared.spec.Stream.{Stream}
use Rattle.lola_model.specs.declared.spec.WrittenRate.{WrittenRate}
use Rattle.lola_model.specs.declared.spec.WrittenRate.TheVariants as rate

-- what is noted of a rate, if not that it is out of range or too fast, is a rate
abbrev pub IsRatedWritten : WrittenRate → Type 0
IsRatedWritten rate.OutOfRange = Unit {0}
IsRatedWritten rate.TooFast = Unit {0}
IsRatedWritten (rate.Of r) = IsPositiveRate r

abbrev pub IsRatedPace : Option Pace → Type 0
IsRatedPace None = Unit {0}
IsRatedPace (Some (pace.Event at f)) = Unit {0}
IsRatedPace (Some (pace.Rate at w)) = IsRatedWritten w
IsRatedPace (Some (pace.Global at w)) = IsRatedWritten w
IsRatedPace (Some (pace.Local at w)) = IsRatedWritten w

abbrev pub IsRatedClause : Option Clause → Type 0
IsRatedClause None = Unit {0}
IsRatedClause (Some c) = IsRatedPace c.pace

-- so it is in the clauses of all streams
abbrev pub AreRated : List Stream → Type 0
AreRated [] = Unit {0}
AreRated (s ∷ ss) = IsRatedClause s.spawn × IsRatedClause s.eval × IsRatedClause s.close × AreRated ss
