-- What a call answers that looks for the least sets of inputs that pass a test.
use Rattle.std.specs.Prelude.{ℕ, List, Bool, Result, Ok, Err}
use Rattle.lola_model.specs.NormalForms.{IsTooWide, ListsLeast}
use Rattle.lola_model.specs.declared.pacing.InputSet.{InputSet}
use Rattle.lola_pacing_normal.specs.declared.answer.NormalEnd.{NormalEnd}
use Rattle.lola_pacing_normal.specs.declared.answer.NormalEnd.TheVariants.{TooWide, Memory}

-- that list, or that it would be longer
abbrev pub AnswersLeast : (ℕ → Bool) → Result (List InputSet) NormalEnd → Type 0
AnswersLeast passes (Ok sets) = ListsLeast passes sets
AnswersLeast passes (Err TooWide) = IsTooWide passes
AnswersLeast passes (Err Memory) = Unit {0}
