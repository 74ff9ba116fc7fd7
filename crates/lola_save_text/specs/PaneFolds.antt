-- The panes of a window over the values of an instance: which values lie in a pane, what they come to, and which panes are kept.
use Rattle.std.specs.Prelude.{ℕ, ◌+◌, ◌-◌, ◌/◌, min, ℤ, pos, List, [], ◌∷◌, Option, Some, None, Bool, if◌then◌else◌, nat_eq, length, map, filter}
use Rattle.lola_value.specs.declared.text.Field.{Field}
use Rattle.lola_model.specs.Named.{counted}
use Rattle.lola_model.specs.Windows.{number_of, total, least_of, greatest_of, all_true, some_true}
use Rattle.lola_model.specs.declared.spec.Agg.{Agg}
use Rattle.lola_model.specs.declared.spec.Agg.TheVariants as agg
use Rattle.lola_panes.specs.declared.partial.Partial.{Partial}
use Rattle.lola_panes.specs.declared.partial.Partial.TheVariants.{Number, Extreme, Mean, Truth}
use Rattle.lola_save_text.specs.declared.forms.WindowForm.{WindowForm}
use Rattle.lola_save_text.specs.declared.state.SavedPanes.{SavedPanes}

-- the number of the pane of an offset from the start, for panes of a length: pane 0 has the start itself, and pane m the offsets
-- above m - 1 lengths and at most m lengths
abbrev pub pane_number : ℕ → ℕ → ℕ
pane_number pane offset = if nat_eq offset 0 then 0 else (offset - 1) / pane + 1

-- whether a value, which has its time, lies in the pane of a number
abbrev pub is_in_pane : ℕ → ℕ → ℕ → ℕ × Field → Bool
is_in_pane start pane number v = nat_eq (pane_number pane (v.0 - start)) number

-- the values in a pane, in the order of time
abbrev pub values_in_pane : ℕ → ℕ → List (ℕ × Field) → ℕ → List Field
values_in_pane start pane vs number = map (λ v. v.1) (filter (is_in_pane start pane number) vs)

-- the least of some numbers, none of nothing
abbrev pub least_among : List ℤ → Option ℤ
least_among [] = None
least_among (z ∷ zs) = Some (least_of z zs)

-- the greatest of some numbers, none of nothing
abbrev pub greatest_among : List ℤ → Option ℤ
greatest_among [] = None
greatest_among (z ∷ zs) = Some (greatest_of z zs)

-- what an aggregation makes of the values of one pane
abbrev pub partial_of : Agg → List Field → Partial
partial_of agg.Count vs = Number (pos (length vs))
partial_of agg.Sum vs = Number (total (map number_of vs))
partial_of agg.Min vs = Extreme (least_among (map number_of vs))
partial_of agg.Max vs = Extreme (greatest_among (map number_of vs))
partial_of agg.Avg vs = Mean (total (map number_of vs)) (length vs)
partial_of agg.Forall vs = Truth (all_true vs)
partial_of agg.Exists vs = Truth (some_true vs)

-- the numbers of the panes that are kept, from the oldest on: the last pane and those before it, so many in all or as many as
-- there are
abbrev pub kept_panes : ℕ → ℕ → List ℕ
kept_panes count last = counted (last + 1 - count) (min (last + 1) count)

-- the panes of a window, where the newest value lies in the pane of this number
abbrev pub panes_to : ℕ → WindowForm → List (ℕ × Field) → ℕ → SavedPanes
panes_to start w vs last =
    record { last = last; partials = map (λ m. partial_of w.how (values_in_pane start w.pane vs m)) (kept_panes w.count last) }

-- the time of the newest of some values, none of nothing
abbrev pub newest_time : List (ℕ × Field) → Option ℕ
newest_time [] = None
newest_time (v ∷ []) = Some v.0
newest_time (v ∷ w ∷ vs) = newest_time (w ∷ vs)

-- the panes of a window where the newest value has this time, if there is a value
abbrev pub panes_by : ℕ → WindowForm → List (ℕ × Field) → Option ℕ → Option SavedPanes
panes_by start w vs None = None
panes_by start w vs (Some time) = Some (panes_to start w vs (pane_number w.pane (time - start)))

-- the panes of a window over these values, none where it was given no value
abbrev pub panes_of : ℕ → WindowForm → List (ℕ × Field) → Option SavedPanes
panes_of start w vs = panes_by start w vs (newest_time vs)
