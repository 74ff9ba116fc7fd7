-- What is gathered of the values in a window.
use Rattle.std.specs.Prelude.{ℤ, ◌≡◌, List, Option, Some, None, length, map}
use Rattle.lola_value.specs.declared.text.Field.{Field}
use Rattle.lola_value.specs.declared.text.Field.TheVariants as field
use Rattle.lola_value.specs.Answer.{Answer, Given, Missing}
use Rattle.lola_model.specs.Windows.{all_true, greater, lesser, maximum_of, minimum_of, number_of, some_true, total}
use Rattle.lola_replay_table.specs.declared.tally.Tally.{Tally}

-- a number as an outcome, if there is one
abbrev pub number_or_missing : Option ℤ → Answer
number_or_missing None = Missing
number_or_missing (Some z) = Given (field.Int z)

-- the lesser of a number and another, if there is one
abbrev pub least_with : Option ℤ → ℤ → ℤ
least_with None z = z
least_with (Some y) z = lesser z y

-- the greater
abbrev pub greatest_with : Option ℤ → ℤ → ℤ
greatest_with None z = z
greatest_with (Some y) z = greater z y

-- what is gathered of these values, in order
pub record IsTally (vs : List Field) (t : Tally) : Type 0 where
  pub count : t.count ≡ length vs
  pub total_is : t.total ≡ total (map number_of vs)
  pub least : number_or_missing t.least ≡ minimum_of (map number_of vs)
  pub greatest : number_or_missing t.greatest ≡ maximum_of (map number_of vs)
  pub all : t.all ≡ all_true vs
  pub some : t.some ≡ some_true vs
