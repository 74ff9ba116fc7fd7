-- The trace: a line for each entry of the journal.
use Rattle.std.specs.Prelude.{◌≢◌, ◌≤◌, ◌<◌, ◌^◌, IsTrue, IsUtf8, Contains, ℕ, List, [], ◌∷◌, ◌++◌, if◌then◌else◌, codes, decimal, map}
use Rattle.std.specs.List.{AllZip}
use Rattle.csv.specs.Writing.{default_writer, row_text}
use Rattle.lola_value.specs.declared.text.Field.{Field}
use Rattle.lola_value.specs.declared.text.Field.TheVariants as field
use Rattle.lola_value.specs.Times.{time_text, latest}
use Rattle.lola_value.specs.Kinds.{is_bool, is_text, IsOperand}
use Rattle.lola_value.specs.declared.value.Kind.{Kind}
use Rattle.lola_model.specs.Model.{is_input, filled_kind}
use Rattle.lola_model.specs.declared.plan.Plan.{Plan}
use Rattle.lola_model.specs.declared.spec.Stream.{Stream}
use Rattle.lola_model.specs.Texts.{integer_text}
use Rattle.lola_model.specs.declared.journal.Entry.{Entry}
use Rattle.lola_model.specs.declared.journal.Mark.{Mark}
use Rattle.lola_model.specs.declared.journal.Mark.TheVariants as mark

-- the bytes of a field
abbrev pub field_bytes : Field → List ℕ
field_bytes field.Absent = codes "#"
field_bytes (field.Bool b) = if b then codes "true" else codes "false"
field_bytes (field.Int z) = integer_text z
field_bytes (field.Text t) = t

-- `A`, or `L` and the merged time
abbrev pub mark_text : Mark → List ℕ
mark_text mark.Accepted = codes "A"
mark_text (mark.Late m) = 76 ∷ time_text m

-- source, number, stamp, mark, and a field for each input
abbrev pub entry_fields : Entry → List (List ℕ)
entry_fields e = decimal e.row.source ∷ decimal e.row.number ∷ time_text e.row.stamp ∷ mark_text e.mark ∷ map field_bytes e.row.fields

-- the row of CSV that has these fields, its line end included
abbrev pub trace_line : Entry → List ℕ
trace_line e = row_text default_writer (entry_fields e)

-- the lines of a journal
abbrev pub trace_text : List Entry → List ℕ
trace_text [] = []
trace_text (e ∷ es) = trace_line e ++ trace_text es

-- which entries a trace can tell

-- a text that stands in a field of a line: in UTF-8, not empty, not `#`, and without line ends
pub record IsTraceableText (text : List ℕ) : Type 0 where
  pub utf8 : IsUtf8 text
  pub some : text ≢ []
  pub present : text ≢ codes "#"
  pub one_line : ¬ (Contains text 13) × ¬ (Contains text 10)

-- a field of an input of this kind: absent, or a value of the kind
abbrev pub IsFieldOf : Kind → Field → Type 0
IsFieldOf k field.Absent = Unit {0}
IsFieldOf k (field.Bool b) = IsTrue (is_bool k)
IsFieldOf k (field.Int z) = IsOperand k z
IsFieldOf k (field.Text t) = IsTrue (is_text k) × IsTraceableText t

-- the kinds of the inputs, in order
abbrev pub input_kinds : List Stream → List Kind
input_kinds [] = []
input_kinds (s ∷ ss) = if is_input s then filled_kind s ∷ input_kinds ss else input_kinds ss

-- a mark whose time is not past the greatest
abbrev pub IsMarkInTime : Mark → Type 0
IsMarkInTime mark.Accepted = Unit {0}
IsMarkInTime (mark.Late m) = m ≤ latest

-- an entry that a line of a plan's trace can tell: one field for each input, and numbers and times in their ranges
pub record IsTraceable (plan : Plan) (e : Entry) : Type 0 where
  pub fields : AllZip IsFieldOf (input_kinds plan.spec.streams) e.row.fields
  pub source : e.row.source < 2 ^ 32
  pub number : e.row.number < 2 ^ 64
  pub stamp : e.row.stamp ≤ latest
  pub mark : IsMarkInTime e.mark
