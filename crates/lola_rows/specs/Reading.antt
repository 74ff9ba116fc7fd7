-- A reader of rows: what it still gives, and what its calls do.
use Rattle.std.specs.Prelude.{◌≡◌, ℕ, ◌+◌, ◌<◌, ◌≤◌, List, [], ◌∷◌, ◌++◌, Bool, true, false, ◌||◌, Option, Some, None, is_some, option_map, length, map}
use Rattle.std.specs.Io.KnownBytes.{prepend_known}
use Rattle.std.specs.List.{AllZip, list_any}
use Rattle.lola_value.specs.Times.{latest}
use Rattle.lola_model.specs.Trace.{IsFieldOf}
use Rattle.lola_model.specs.declared.journal.Row.{Row}
use Rattle.lola_model.specs.declared.spec.Stream.{Stream}
use Rattle.lola_port.specs.States.{Rose, SourceState}
use Rattle.lola_rows.specs.Columns.{Columns, inputs_of}
use Rattle.lola_rows.specs.declared.columns.Input.{Input}
use Rattle.lola_rows.specs.Lines.{Line, is_line_end, lines_of, without_mark}
use Rattle.lola_rows.specs.Rows.{ended, SourceEnd, SourceRows, Whole, MalformedAt, rows_from, rows_of_lines}
use Rattle.lola_rows.specs.declared.answer.Ending.{Ending}
use Rattle.lola_rows.specs.declared.answer.Ending.TheVariants as ending
use Rattle.lola_rows.specs.declared.answer.RowAnswer.{RowAnswer}
use Rattle.lola_rows.specs.declared.answer.RowAnswer.TheVariants as answer
use Rattle.lola_rows.specs.declared.stage.Section.{Section}
use Rattle.lola_rows.specs.declared.stage.Section.TheVariants as stage

-- what a reader is made for: the number of the source, the most rows, and the inputs
pub record Shape : Type 0 where
  pub index : ℕ
  pub most : ℕ
  pub inputs : List Input

-- the shape of a source for these streams
abbrev pub shape_of : List Stream → ℕ → ℕ → Shape
shape_of streams index most = record { index = index; most = most; inputs = inputs_of streams }

-- a reader: how far it is, the columns that the heading gave, how many rows were given, the bytes that were read and not yet taken, the source, and how it ended
pub record Reading : Type 0 where
  pub shape : Shape
  pub stage : Section
  pub columns : Columns
  pub given : ℕ
  pub held : List ℕ
  pub source : SourceState
  pub ended : Option Ending

-- the heading stands behind
abbrev pub is_behind_heading : Section → Bool
is_behind_heading stage.Start = false
is_behind_heading stage.Heading = false
is_behind_heading stage.Rows = true
is_behind_heading stage.Over = true

-- the heading stands behind, or the reader has ended
abbrev pub has_begun : Reading → Bool
has_begun r = is_some r.ended || is_behind_heading r.stage

-- the columns before a heading was taken
abbrev pub no_columns : Columns
no_columns = record { width = 0; time = 0; inputs = [] }

-- a reader that has read nothing
abbrev pub fresh : Shape → SourceState → Reading
fresh shape source = record { shape = shape; stage = stage.Start; columns = no_columns; given = 0; held = []; source = source; ended = None }

-- the lines of bytes: at the very start one byte order mark is dropped
abbrev pub lines_at : Section → List ℕ → List Line
lines_at stage.Start bytes = lines_of (without_mark bytes)
lines_at stage.Heading bytes = lines_of bytes
lines_at stage.Rows bytes = lines_of bytes
lines_at stage.Over bytes = lines_of bytes

-- what lines give, with the heading in front of them, or after this many rows
abbrev pub rest_at : Shape → Section → Columns → ℕ → List Line → SourceRows
rest_at s stage.Start columns given lines = rows_of_lines s.index s.most s.inputs lines
rest_at s stage.Heading columns given lines = rows_of_lines s.index s.most s.inputs lines
rest_at s stage.Rows columns given lines = rows_from s.index s.most columns (given + 1) lines
rest_at s stage.Over columns given lines = ended Whole

-- the rows that a reader has not given and the end behind them, where its source tells its bytes
abbrev pub rest_of : Reading → Option SourceRows
rest_of r = option_map (λ bytes. rest_at r.shape r.stage r.columns r.given (lines_at r.stage bytes)) (prepend_known r.held r.source.left)

-- how many bytes may still be taken: each row takes one at least
abbrev pub size_of : Reading → ℕ
size_of r = r.source.to_come + length r.held

-- these rows stand at the front, before what is left
pub record HasFront (before : SourceRows) (rows : List Row) (left : Option SourceRows) : Type 0 where
  pub rest : SourceRows
  pub left_is : left ≡ Some rest
  pub rows_are : before.rows ≡ rows ++ rest.rows
  pub end_is : before.end ≡ rest.end

-- these rows were taken from the front of what was told
abbrev pub Passes : Option SourceRows → Option SourceRows → List Row → Type 0
Passes old new rows = (before : SourceRows) → old ≡ Some before → HasFront before rows new

-- what is told has no row, and this end
abbrev pub Ends : Option SourceRows → SourceEnd → Type 0
Ends old end = (before : SourceRows) → old ≡ Some before → (before.rows ≡ []) × (before.end ≡ end)

-- a row of this shape that comes after so many rows: a field of its kind or an absent one for each input, and a time that is not too late
pub record IsRowOf (shape : Shape) (given : ℕ) (row : Row) : Type 0 where
  pub source : row.source ≡ shape.index
  pub number : row.number ≡ given + 1
  pub within : row.number ≤ shape.most
  pub stamp : row.stamp ≤ latest
  pub fields : AllZip IsFieldOf (map (λ i. i.kind) shape.inputs) row.fields

-- a row was given, the next one of what is told
pub record GaveRow (row : Row) (old new : Reading) : Type 0 where
  pub passes : Passes (rest_of old) (rest_of new) (row ∷ [])
  pub is_row : IsRowOf old.shape old.given row
  pub given : new.given ≡ row.number
  pub less : size_of new < size_of old
  pub count : new.source.count ≡ old.source.count

-- a read failed: no row was lost, and none whose line feed was read is left
pub record BrokeOff (old new : Reading) : Type 0 where
  pub later : old.source.count ≤ new.source.count
  pub rose : Rose old.source.count new.source.count
  pub rest : rest_of new ≡ rest_of old
  pub waiting : list_any is_line_end new.held ≡ false

-- there was no memory: no row was lost
pub record RanOut (old new : Reading) : Type 0 where
  pub rest : rest_of new ≡ rest_of old
  pub count : new.source.count ≡ old.source.count

-- how a reader stops: at the end of all rows, at a malformed line, at a failed read or for want of memory
abbrev pub Stops : Ending → Reading → Reading → Type 0
Stops ending.End old new = Ends (rest_of old) Whole × (new.source.count ≡ old.source.count)
Stops (ending.Malformed kind row) old new = Ends (rest_of old) (MalformedAt kind row) × (row ≤ old.given + 1) × (new.source.count ≡ old.source.count)
Stops ending.ReadFailed old new = BrokeOff old new
Stops ending.Memory old new = RanOut old new

-- the answer that tells an ending
abbrev pub answer_of : Ending → RowAnswer
answer_of ending.End = answer.End
answer_of (ending.Malformed kind row) = answer.Malformed kind row
answer_of ending.ReadFailed = answer.ReadFailed
answer_of ending.Memory = answer.Memory

-- an answer of a reader that has not ended: after all but a row it has
abbrev pub Answers : RowAnswer → Reading → Reading → Type 0
Answers (answer.Row row) old new = GaveRow row old new × (new.ended ≡ None)
Answers answer.End old new = Stops ending.End old new × (new.ended ≡ Some ending.End)
Answers (answer.Malformed kind row) old new = Stops (ending.Malformed kind row) old new × (new.ended ≡ Some (ending.Malformed kind row))
Answers answer.ReadFailed old new = Stops ending.ReadFailed old new × (new.ended ≡ Some ending.ReadFailed)
Answers answer.Memory old new = Stops ending.Memory old new × (new.ended ≡ Some ending.Memory)

-- a reader that has ended answers the same, and nothing is read
pub record Repeats (how : Ending) (result : RowAnswer) (old new : Reading) : Type 0 where
  pub answer : result ≡ answer_of how
  pub kept : new ≡ old

-- no call changes what the reader is made for, nor the place of its source
pub record Keeps (old new : Reading) : Type 0 where
  pub shape : new.shape ≡ old.shape
  pub place : new.source.place ≡ old.source.place

-- before the heading no row was given, and behind it the columns are those of the inputs
abbrev pub IsInStep : Section → ℕ → Columns → List Input → Type 0
IsInStep stage.Start given columns inputs = given ≡ 0
IsInStep stage.Heading given columns inputs = given ≡ 0
IsInStep stage.Rows given columns inputs = map (λ c. c.kind) columns.inputs ≡ map (λ i. i.kind) inputs
IsInStep stage.Over given columns inputs = Unit {0}
