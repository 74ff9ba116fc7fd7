-- Partial results of panes.
use Rattle.std.specs.Prelude.{ℕ, ◌+◌, ℤ, pos, negsuc, ◌≡◌, if◌then◌else◌, int_lt, List, [], ◌∷◌, filter, length, nat_eq, Option, Some, unsigned_abs}
use Rattle.lola_model.specs.declared.spec.Agg.{Agg}
use Rattle.lola_model.specs.declared.spec.Agg.TheVariants as agg
use Rattle.lola_model.specs.Windows.{total, all_true, some_true}
use Rattle.lola_value.specs.declared.text.Field.{Field}
use Rattle.lola_panes.specs.declared.partial.Partial.{Partial}
use Rattle.lola_panes.specs.declared.partial.Partial.TheVariants as partial
use Rattle.lola_panes.specs.Answers.{same_number}
use Rattle.lola_panes.specs.Tallies.{fields_of, weights}
use Rattle.lola_panes.specs.Weights.{best_of, number_at}

-- the values that lie in pane n, of values with their offsets
abbrev pub pane_values : ℕ → ℕ → List (ℕ × Field) → List (ℕ × Field)
pane_values pane n all = filter (λ v. nat_eq (number_at pane v.0) n) all

-- the partial result of a pane with these values
abbrev pub partial_of : Agg → List (ℕ × Field) → Partial
partial_of agg.Count vs = partial.Number (pos (length vs))
partial_of agg.Sum vs = partial.Number (total (weights agg.Sum vs))
partial_of agg.Min vs = partial.Extreme (best_of agg.Min (weights agg.Min vs))
partial_of agg.Max vs = partial.Extreme (best_of agg.Max (weights agg.Max vs))
partial_of agg.Avg vs = partial.Mean (total (weights agg.Avg vs)) (length vs)
partial_of agg.Forall vs = partial.Truth (all_true (fields_of vs))
partial_of agg.Exists vs = partial.Truth (some_true (fields_of vs))

-- the partial result from how many values there are, their total, and the best of them
abbrev pub part : Agg → ℕ → ℤ → Option ℤ → Partial
part agg.Count count sum best = partial.Number (pos count)
part agg.Sum count sum best = partial.Number sum
part agg.Min count sum best = partial.Extreme best
part agg.Max count sum best = partial.Extreme best
part agg.Avg count sum best = partial.Mean sum count
part agg.Forall count sum best = partial.Truth (same_number sum (pos count))
part agg.Exists count sum best = partial.Truth (int_lt (pos 0) sum)

-- how many values a partial result counts
abbrev pub counted : Agg → Partial → ℕ
counted agg.Count (partial.Number z) = unsigned_abs z
counted agg.Avg (partial.Mean sum count) = count
counted _ _ = 0

-- what it adds to a total
abbrev pub totalled : Agg → Partial → ℤ
totalled agg.Sum (partial.Number z) = z
totalled agg.Avg (partial.Mean sum count) = sum
totalled agg.Forall (partial.Truth b) = if b then pos 0 else negsuc 0
totalled agg.Exists (partial.Truth b) = if b then pos 1 else pos 0
totalled _ _ = pos 0

-- how large a total of numbers it has
abbrev pub total_size : Agg → Partial → ℕ
total_size agg.Sum (partial.Number z) = unsigned_abs z
total_size agg.Avg (partial.Mean sum count) = unsigned_abs sum
total_size _ _ = 0

-- the best of the values of a pane that is kept
abbrev pub extreme_in : Partial → Option ℤ
extreme_in (partial.Extreme best) = best
extreme_in _ = Some (pos 0)

-- these are the partial results of the panes from number n on
abbrev pub ArePartials : Agg → ℕ → ℕ → List Partial → List (ℕ × Field) → Type 0
ArePartials how pane n [] all = Unit {0}
ArePartials how pane n (q ∷ qs) all = (partial_of how (pane_values pane n all) ≡ q) × ArePartials how pane (n + 1) qs all
