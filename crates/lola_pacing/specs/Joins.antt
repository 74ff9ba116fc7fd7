-- One more of the pacings of leaves, joined.
use Rattle.std.specs.Prelude.{◌≡◌, List, [], ◌∷◌, Result, Ok}
use Rattle.lola_model.specs.declared.pacing.InputSet.{InputSet}
use Rattle.lola_pacing_normal.specs.Least.{AnswersLeast}
use Rattle.lola_pacing_normal.specs.declared.answer.NormalEnd.{NormalEnd}
use Rattle.lola_model.specs.PacingFound.{satisfies_both}

-- these sets, joined with a form if there is one
abbrev pub AnswersNext : List InputSet → List (List InputSet) → Result (List InputSet) NormalEnd → Type 0
AnswersNext sets [] answer = answer ≡ Ok sets
AnswersNext sets (form ∷ forms) answer = AnswersLeast (satisfies_both sets form) answer
