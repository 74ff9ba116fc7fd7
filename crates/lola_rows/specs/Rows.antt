-- The rows of a source and its end, as a function of all its bytes.
use Rattle.std.specs.Prelude.{ℕ, ◌+◌, List, [], ◌∷◌, Option, Some, None, option_map, Result, Ok, Err, Bool, not, if◌then◌else◌, nat_eq, nat_lt, length, slice_get}
use Rattle.std.specs.List.{list_any}
use Rattle.std.specs.Str.{is_utf8}
use Rattle.lola_value.specs.declared.text.Field.{Field}
use Rattle.lola_value.specs.declared.text.Field.TheVariants as field
use Rattle.lola_value.specs.declared.value.Kind.{Kind}
use Rattle.lola_value.specs.Times.{read_time}
use Rattle.lola_model.specs.declared.journal.Row.{Row}
use Rattle.lola_model.specs.declared.source.MalformedKind.{MalformedKind}
use Rattle.lola_model.specs.declared.source.MalformedKind.TheVariants as malformed
use Rattle.lola_rows.specs.Blanks.{trimmed}
use Rattle.lola_rows.specs.Line.{begins_with_mark, fields_of_line}
use Rattle.lola_rows.specs.Values.{and_then, read_value}
use Rattle.lola_rows.specs.Columns.{Columns, columns_of}
use Rattle.lola_rows.specs.declared.columns.Column.{Column}
use Rattle.lola_rows.specs.declared.columns.Input.{Input}
use Rattle.lola_rows.specs.Lines.{Line, is_return, lines_of, longest_line, without_mark}

-- how a source ends: well, or at a line that is malformed in this way, of the row with this number (the heading is row 0)
pub data SourceEnd : Type 0 where
  Whole : SourceEnd
  MalformedAt : (kind : MalformedKind) (row : ℕ) → SourceEnd

-- all that a source gives
pub record SourceRows : Type 0 where
  pub rows : List Row
  pub end : SourceEnd

-- a value, unless something is wrong
abbrev pub unless : {X : Type 0} → Option MalformedKind → Result X MalformedKind → Result X MalformedKind
unless None value = value
unless (Some kind) value = Err kind

-- a flaw, where a test finds it
abbrev pub flaw_if : Bool → MalformedKind → Option MalformedKind
flaw_if b kind = if b then Some kind else None

-- the first of two flaws
abbrev pub or_flaw : Option MalformedKind → Option MalformedKind → Option MalformedKind
or_flaw None second = second
or_flaw (Some kind) second = Some kind

-- a value, or what is wrong
abbrev pub or_else_flaw : {X : Type 0} → Option X → MalformedKind → Result X MalformedKind
or_else_flaw None kind = Err kind
or_else_flaw (Some x) kind = Ok x

abbrev pub then_value : {X Y : Type 0} → Result X MalformedKind → (X → Result Y MalformedKind) → Result Y MalformedKind
then_value (Ok x) f = f x
then_value (Err kind) f = Err kind

-- what is wrong with a line whatever it says: it is too long, has a carriage return, or is not UTF-8
abbrev pub flaw_of_line : Line → Option MalformedKind
flaw_of_line line =
    or_flaw (flaw_if (nat_lt longest_line line.size) malformed.RowTooLong)
    (or_flaw (flaw_if (list_any is_return line.text) malformed.BareCr) (flaw_if (not (is_utf8 line.text)) malformed.BadText))

-- the value of a kind in a field, and absent where there is no field
abbrev pub value_at : Kind → Option (List ℕ) → Option Field
value_at k None = Some field.Absent
value_at k (Some text) = read_value k text

-- the value at a place, and absent where the heading has none
abbrev pub value_in : List (List ℕ) → Kind → Option ℕ → Option Field
value_in fields k None = Some field.Absent
value_in fields k (Some place) = value_at k (slice_get fields place)

abbrev pub value_of : List (List ℕ) → Column → Option Field
value_of fields column = value_in fields column.kind column.place

-- the values of all columns
abbrev pub values_of : List (List ℕ) → List Column → Option (List Field)
values_of fields [] = Some []
values_of fields (c ∷ cs) = and_then (value_of fields c) (λ v. option_map (λ vs. v ∷ vs) (values_of fields cs))

-- the time of a row
abbrev pub time_of : List (List ℕ) → ℕ → Option ℕ
time_of fields place = and_then (slice_get fields place) (λ text. read_time (trimmed text))

abbrev pub row_with : ℕ → ℕ → ℕ → List Field → Row
row_with source number stamp fields = record { source = source; number = number; stamp = stamp; fields = fields }

-- a row before those of later lines
abbrev pub one_more : Row → SourceRows → SourceRows
one_more row rest = record { rows = row ∷ rest.rows; end = rest.end }

-- no row, and this end
abbrev pub ended : SourceEnd → SourceRows
ended end = record { rows = []; end = end }

-- a row and what follows, or the end that a malformed line makes
abbrev pub row_before : ℕ → Result Row MalformedKind → SourceRows → SourceRows
row_before number (Err kind) rest = ended (MalformedAt kind number)
row_before number (Ok row) rest = one_more row rest

-- the columns of the line of a heading
abbrev pub columns_of_line : List Input → Line → Result Columns MalformedKind
columns_of_line inputs line = unless (flaw_of_line line) (or_else_flaw (columns_of inputs line.text) malformed.BadHeading)

module _ (source most : ℕ) where
  -- the row that these fields make
  abbrev pub row_of_fields : Columns → ℕ → List (List ℕ) → Result Row MalformedKind
  row_of_fields columns number fields =
      unless (flaw_if (not (nat_eq (length fields) columns.width)) malformed.FieldCount)
      (then_value (or_else_flaw (time_of fields columns.time) malformed.BadTime) (λ stamp.
      then_value (or_else_flaw (values_of fields columns.inputs) malformed.BadValue) (λ values. Ok (row_with source number stamp values))))

  -- the row of a line
  abbrev pub row_of_line : Columns → ℕ → Line → Result Row MalformedKind
  row_of_line columns number line =
      unless (flaw_of_line line)
      (unless (flaw_if (begins_with_mark line.text) malformed.BadText)
      (unless (flaw_if (nat_lt most number) malformed.TooManyRows) (row_of_fields columns number (fields_of_line line.text))))

  -- the rows of lines, the first of which has this number
  abbrev pub rows_from : Columns → ℕ → List Line → SourceRows
  rows_from columns number [] = ended Whole
  rows_from columns number (line ∷ lines) = row_before number (row_of_line columns number line) (rows_from columns (number + 1) lines)

  -- the rows of the later lines, or the end that a malformed heading makes
  abbrev pub rows_under : Result Columns MalformedKind → List Line → SourceRows
  rows_under (Err kind) lines = ended (MalformedAt kind 0)
  rows_under (Ok columns) lines = rows_from columns 1 lines

  -- the rows of all lines, of which the first is the heading
  abbrev pub rows_of_lines : List Input → List Line → SourceRows
  rows_of_lines inputs [] = ended (MalformedAt malformed.BadHeading 0)
  rows_of_lines inputs (line ∷ lines) = rows_under (columns_of_line inputs line) lines

-- the rows of a source and its end, from all its bytes: for these inputs, the number of the source, and the most rows
unfoldable pub rows_of_source : List Input → ℕ → ℕ → List ℕ → SourceRows
rows_of_source inputs source most bytes = rows_of_lines source most inputs (lines_of (without_mark bytes))
