-- Which values have a verdict line.
use Rattle.std.specs.Prelude.{Bool, true, false}
use Rattle.lola_value.specs.declared.text.Field.{Field}
use Rattle.lola_value.specs.declared.text.Field.TheVariants as field
use Rattle.lola_model.specs.declared.journal.Show.{Show}
use Rattle.lola_model.specs.declared.journal.Show.TheVariants.{Triggers, Outputs}
use Rattle.lola_model.specs.declared.spec.Sort.{Sort}
use Rattle.lola_model.specs.declared.spec.Sort.TheVariants as sort

-- whether outputs are shown
abbrev pub shows_outputs : Show → Bool
shows_outputs Triggers = false
shows_outputs Outputs = true

-- whether a trigger's value is true
abbrev pub is_true : Field → Bool
is_true (field.Bool b) = b
is_true v = false

-- whether a value of a stream of this sort has a line
abbrev pub is_shown : Show → Sort → Field → Bool
is_shown show sort.Input v = false
is_shown show sort.Output v = shows_outputs show
is_shown show sort.Trigger v = is_true v
