-- Moments of deadlines, with one that stands for all moments later than the latest time, and for none.
use Rattle.std.specs.Prelude.{ℕ, ◌+◌, ◌-◌, List, [], ◌∷◌, Option, Some, None, min}
use Rattle.lola_value.specs.Ratio.{Ratio}
use Rattle.lola_value.specs.Rate.{next_deadline}
use Rattle.lola_model.specs.NextStep.{first_due}

-- the moment after the latest time
abbrev pub after_latest : ℕ
after_latest = 4000000000000000001

abbrev pub cut : Option ℕ → ℕ
cut None = after_latest
cut (Some t) = min t after_latest

-- the first deadline of a rate that is not before `from`, counted from a birth
unfoldable pub due_by : Ratio → ℕ → ℕ → ℕ
due_by rate born from = min (born + next_deadline rate (from - born - 1)) after_latest

-- of these rates
unfoldable pub due_at : List Ratio → ℕ → ℕ → ℕ
due_at rates born from = cut (first_due born rates from)

-- of instances with these births
abbrev pub least_due : List Ratio → ℕ → List ℕ → ℕ
least_due rates from [] = after_latest
least_due rates from (b ∷ bs) = min (due_at rates b from) (least_due rates from bs)
