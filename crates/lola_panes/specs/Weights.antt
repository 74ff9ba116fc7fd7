-- Numbers of panes, what a value counts for, and the best of some numbers.
use Rattle.std.specs.Prelude.{ℕ, ◌+◌, ◌-◌, ◌/◌, ℤ, pos, Bool, true, false, if◌then◌else◌, nat_eq, List, [], ◌∷◌, Option, Some, None, int_lt}
use Rattle.lola_model.specs.declared.spec.Agg.{Agg}
use Rattle.lola_model.specs.declared.spec.Agg.TheVariants as agg
use Rattle.lola_value.specs.declared.text.Field.{Field}
use Rattle.lola_value.specs.declared.value.Value.{Value}
use Rattle.lola_value.specs.declared.value.Value.TheVariants as value
use Rattle.lola_model.specs.Windows.{number_of, truth_of, lesser, greater}

-- the pane of an offset from the start: pane m has those above (m - 1) * pane and at most m * pane, and pane 0 the start
abbrev pub number_at : ℕ → ℕ → ℕ
number_at pane offset = if nat_eq offset 0 then 0 else (offset - 1) / pane + 1

-- 1 for true
abbrev pub as_number : Bool → ℤ
as_number true = pos 1
as_number false = pos 0

-- what a value counts for: a truth value as 1 or 0, so that totals count the true ones
abbrev pub weight_of : Agg → Field → ℤ
weight_of agg.Forall f = as_number (truth_of f)
weight_of agg.Exists f = as_number (truth_of f)
weight_of how f = number_of f

-- the number of a value with texts by their numbers
abbrev pub number_of_value : Value → ℤ
number_of_value (value.Int z) = z
number_of_value _ = pos 0

-- its truth
abbrev pub truth_of_value : Value → Bool
truth_of_value (value.Bool b) = b
truth_of_value _ = false

-- what it counts for
abbrev pub weight_of_value : Agg → Value → ℤ
weight_of_value agg.Forall v = as_number (truth_of_value v)
weight_of_value agg.Exists v = as_number (truth_of_value v)
weight_of_value how v = number_of_value v

-- the better of two: the greater one for the maximum, and else the lesser one
abbrev pub better : Agg → ℤ → ℤ → ℤ
better agg.Max a b = greater a b
better how a b = lesser a b

-- the first of two is the better one, and they are not the same
abbrev pub is_better : Agg → ℤ → ℤ → Bool
is_better agg.Max a b = int_lt b a
is_better how a b = int_lt a b

-- the better of a number and the best of others
abbrev pub best_after : Agg → ℤ → Option ℤ → ℤ
best_after how z None = z
best_after how z (Some y) = better how z y

-- the best of some numbers
abbrev pub best_of : Agg → List ℤ → Option ℤ
best_of how [] = None
best_of how (z ∷ zs) = Some (best_after how z (best_of how zs))
