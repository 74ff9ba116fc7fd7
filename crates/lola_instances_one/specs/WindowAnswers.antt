-- What a window answers of an instance.
use Rattle.std.specs.Prelude.{ℕ, ◌≡◌, ◌≤◌, ◌-◌, ◌+◌, ◌*◌, List, ◌++◌, ◌&&◌, nat_lt, if◌then◌else◌}
use Rattle.lola_value.specs.declared.text.Field.{Field}
use Rattle.lola_value.specs.declared.value.Outcome.{Outcome}
use Rattle.lola_value.specs.Answer.{Answer, Missing, Poisoned}
use Rattle.lola_value.specs.Naming.{Naming, read_outcome}
use Rattle.lola_model.specs.Accesses.{one_more}
use Rattle.lola_model.specs.Reading.{spoiled}
use Rattle.lola_model.specs.Windows.{aggregated, values_within}
use Rattle.lola_panes.specs.Standing.{Partials, StandFor}
use Rattle.lola_instances_one.specs.Holdings.{Holdings, shown}
use Rattle.lola_instances_one.specs.Memories.{Remembers}

-- the fold of the values in the window of these panes, this step's outcome included
abbrev pub folded : ℕ → ℕ → Partials → Answer → List (ℕ × Field) → Answer
folded start time p now values =
    if p.exact && nat_lt time (start + p.count * p.pane) then Missing
    else aggregated p.aggregation p.kind (values_within (p.count * p.pane) time (values ++ one_more time now))

-- what their window answers, from this step's outcome and the earlier values
abbrev pub window_value : ℕ → ℕ → Partials → Answer → List (ℕ × Field) → Answer
window_value start time p now values = if spoiled now then Poisoned else folded start time p now values

-- whatever values the panes stand for, the outcome is the fold of those that their window has at an offset
abbrev pub IsFold : ℕ → Outcome → Partials → Type 0
IsFold offset result p =
    (names : Naming) (all : List (ℕ × Field)) → StandFor p all
    → read_outcome names result ≡ (if p.exact && nat_lt offset (p.count * p.pane) then Missing else aggregated p.aggregation p.kind (values_within (p.count * p.pane) offset all))

-- whatever values the instance remembers, the outcome is what the window answers
abbrev pub IsWindowAnswer : ℕ → ℕ → Holdings → Outcome → Partials → Type 0
IsWindowAnswer step offset s result p =
    (start time : ℕ) (names : Naming) (values : List (ℕ × Field)) → Remembers start time step names s values → offset ≡ time - start → start ≤ time
    → read_outcome names result ≡ window_value start time p (read_outcome names (shown step s)) values
