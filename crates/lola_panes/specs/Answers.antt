-- The answer of a window from the number of its values and their total, or from the best of them.
use Rattle.std.specs.Prelude.{ℕ, ℤ, pos, Bool, true, false, if◌then◌else◌, nat_eq, Option, Some, None, int_le, int_lt, int_div, ◌&&◌}
use Rattle.lola_model.specs.declared.spec.Agg.{Agg}
use Rattle.lola_model.specs.declared.spec.Agg.TheVariants as agg
use Rattle.lola_value.specs.declared.text.Field.TheVariants as field
use Rattle.lola_value.specs.declared.value.Kind.{Kind}
use Rattle.lola_value.specs.Answer.{Answer, Given, Missing}
use Rattle.lola_value.specs.Arithmetic.{within}

-- the same number
abbrev pub same_number : ℤ → ℤ → Bool
same_number a b = int_le a b && int_le b a

-- from the number of the values and their total, where the aggregation needs no more
abbrev pub total_answer : Agg → Kind → ℕ → ℤ → Answer
total_answer agg.Count k count sum = Given (field.Int (pos count))
total_answer agg.Sum k count sum = within k sum
total_answer agg.Avg k count sum = if nat_eq count 0 then Missing else within k (int_div sum (pos count))
total_answer agg.Forall k count sum = Given (field.Bool (same_number sum (pos count)))
total_answer agg.Exists k count sum = Given (field.Bool (int_lt (pos 0) sum))
total_answer agg.Min k count sum = Missing
total_answer agg.Max k count sum = Missing

-- from the best of the values
abbrev pub best_answer : Kind → Option ℤ → Answer
best_answer k None = Missing
best_answer k (Some z) = within k z

-- the answer is one of the values
abbrev pub is_extreme : Agg → Bool
is_extreme agg.Min = true
is_extreme agg.Max = true
is_extreme how = false
