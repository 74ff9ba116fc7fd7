-- What is shown of a value: a line or none.
use Rattle.std.specs.Prelude.{ℕ, ◌≡◌, List, [], ◌∷◌, true, false, Bool, slice_get}
use Rattle.lola_value.specs.declared.text.Field.{Field}
use Rattle.lola_model.specs.Texts.{value_lines}
use Rattle.lola_model.specs.declared.journal.Show.{Show}
use Rattle.lola_model.specs.declared.spec.Stream.{Stream}
use Rattle.lola_report.specs.Verdicts.{IsShown, line_of_sort}
use Rattle.lola_step_contents.specs.Ends.{RowValue, lines_at}

-- by this answer, a value of a stream has its one line or none
abbrev pub IsShownBy : Bool → Show → Stream → Field → Type 0
IsShownBy true show s v = IsShown s.sort v × ((time : ℕ) (p : List Field) → value_lines show time s p v ≡ line_of_sort s.sort time s p v ∷ [])
IsShownBy false show s v = (time : ℕ) (p : List Field) → value_lines show time s p v ≡ []

-- what is shown of one value
abbrev pub lines_for : Show → ℕ → List Stream → RowValue → List (List ℕ)
lines_for show time streams v = lines_at show time (slice_get streams v.stream) v.params v.value
