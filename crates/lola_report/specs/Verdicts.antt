-- The verdict line of a value.
use Rattle.std.specs.Prelude.{ℕ, ◌≡◌, List, [], true, Option, Some, None}
use Rattle.lola_value.specs.declared.text.Field.{Field}
use Rattle.lola_value.specs.declared.text.Field.TheVariants as field
use Rattle.lola_model.specs.Texts.{trigger_line, output_line, value_lines}
use Rattle.lola_model.specs.declared.journal.Show.TheVariants.{Outputs}
use Rattle.lola_model.specs.declared.spec.Sort.{Sort}
use Rattle.lola_model.specs.declared.spec.Sort.TheVariants as sort
use Rattle.lola_model.specs.declared.spec.Stream.{Stream}

-- each value of an output has a line, and of a trigger the value true
abbrev pub IsShown : Sort → Field → Type 0
IsShown sort.Input v = ⊥
IsShown sort.Output v = Unit {0}
IsShown sort.Trigger v = v ≡ field.Bool true

-- there is such a stream, and this value of it has a line
abbrev pub HasVerdict : Option Stream → Field → Type 0
HasVerdict None v = ⊥
HasVerdict (Some s) v = IsShown s.sort v

-- the line for a stream's sort
abbrev pub line_of_sort : Sort → ℕ → Stream → List Field → Field → List ℕ
line_of_sort sort.Input time s p v = []
line_of_sort sort.Output time s p v = output_line time s p v
line_of_sort sort.Trigger time s p v = trigger_line time s

-- the line of a stream's value, for an instance with these parameters
abbrev pub verdict_text : Option Stream → ℕ → List Field → Field → List ℕ
verdict_text None time p v = []
verdict_text (Some s) time p v = line_of_sort s.sort time s p v

-- what is shown of a stream's value, where outputs are shown too
abbrev pub shown_lines : Option Stream → ℕ → List Field → Field → List (List ℕ)
shown_lines None time p v = []
shown_lines (Some s) time p v = value_lines Outputs time s p v
