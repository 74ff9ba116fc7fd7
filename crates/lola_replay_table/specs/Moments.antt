-- The step that a moment is of.
use Rattle.std.specs.Prelude.{ℕ, ◌≡◌, List, Option, Some, None}
use Rattle.std.specs.Option.{option_copied}
use Rattle.lola_value.specs.declared.text.Field.{Field}
use Rattle.lola_model.specs.Activity.{present}
use Rattle.lola_model.specs.Table.{Step}
use Rattle.lola_replay_table.specs.declared.scene.ReplayedStep.{ReplayedStep}

-- the fields of its row
abbrev pub the_fields : ReplayedStep → Option (List Field)
the_fields m = option_copied m.fields

-- the step
abbrev pub the_step : ReplayedStep → Step
the_step m = record { time = m.time; fields = the_fields m }

-- this is the set of the inputs that a row has, if there is one
abbrev pub IsSetOf : ℕ → Option (List Field) → Type 0
IsSetOf set None = Unit {0}
IsSetOf set (Some fields) = set ≡ present fields

-- the moment has the set of its inputs
abbrev pub HasSet : ReplayedStep → Type 0
HasSet m = IsSetOf m.present (the_fields m)
