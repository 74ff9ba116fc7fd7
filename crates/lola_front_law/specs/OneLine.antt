-- What names are in a plan, and that a verdict is one line.
use Rattle.std.specs.Prelude.{ℕ, List, IsTrue, All, slice_get}
use Rattle.std.specs.List.{list_all}
use Rattle.lola_value.specs.declared.text.Field.{Field}
use Rattle.lola_lexer.specs.Spelling.{in_name}
use Rattle.lola_model.specs.Table.{TableRow}
use Rattle.lola_model.specs.Texts.{table_lines}
use Rattle.lola_model.specs.declared.journal.Show.{Show}
use Rattle.lola_model.specs.declared.plan.Plan.{Plan}
use Rattle.lola_model.specs.declared.spec.Stream.{Stream}
use Rattle.lola_report.specs.Lines.{IsLine}
use Rattle.lola_report.specs.Verdicts.{HasVerdict, verdict_text}
use Rattle.lola_front.specs.Front.{IsPlanOf}

-- a stream whose name has letters, digits and `_` alone
abbrev pub IsWordStream : Stream → Type 0
IsWordStream s = IsTrue (list_all in_name s.name)

-- the name of each stream of a plan is so
abbrev pub NamesAreWords : Type 0
NamesAreWords = (bytes : List ℕ) (plan : Plan) → IsPlanOf bytes plan → All IsWordStream plan.spec.streams

-- the verdict line of each value that has one ends with its one LF, and so does each line of the verdicts of a table, whatever
-- texts stand in it
pub record HasOneLines (plan : Plan) : Type 0 where
  pub of_value : (stream time : ℕ) (params : List Field) (value : Field) → HasVerdict (slice_get plan.spec.streams stream) value
      → IsLine (verdict_text (slice_get plan.spec.streams stream) time params value)
  pub of_table : (show : Show) (rows : List TableRow) → All IsLine (table_lines show plan.spec.streams rows)

abbrev pub VerdictsAreLines : Type 0
VerdictsAreLines = (bytes : List ℕ) (plan : Plan) → IsPlanOf bytes plan → HasOneLines plan
