-- What a window onto an instance answers.
use Rattle.std.specs.Prelude.{ℕ, ◌≡◌, ◌+◌, ◌*◌, List, ◌++◌, ◌&&◌, nat_lt, if◌then◌else◌}
use Rattle.lola_value.specs.declared.text.Field.{Field}
use Rattle.lola_value.specs.Answer.{Answer, Missing, Poisoned}
use Rattle.lola_model.specs.Accesses.{one_more}
use Rattle.lola_model.specs.Reading.{spoiled}
use Rattle.lola_model.specs.Windows.{aggregated, values_within}
use Rattle.lola_instances_one.specs.declared.window.WindowPanes.{WindowPanes}

-- from this step's outcome and the earlier values, at a time and with a start
abbrev pub windowed : ℕ → ℕ → WindowPanes → Answer → List (ℕ × Field) → Answer
windowed start time w now values =
    if spoiled now then Poisoned
    else if w.exact && nat_lt time (start + w.count * w.pane) then Missing
    else aggregated w.aggregation w.kind (values_within (w.count * w.pane) time (values ++ one_more time now))

-- the windows end where a pane of theirs does
abbrev pub IsWhole : ℕ → WindowPanes → Type 0
IsWhole offset w = (k : ℕ) × (offset ≡ k * w.pane)
