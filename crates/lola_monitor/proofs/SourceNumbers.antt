-- Each row of a source has the number of that source.
use Rattle.std.proofs.Common.{◌≡◌, ℕ, ◌+◌, List, [], ◌∷◌, Option, Some, None, Result, Ok, Err, refl}
use Rattle.std.specs.List.{AllByRecursion}
use Rattle.std.specs.Prelude.{not, nat_eq, nat_lt, length}
use Rattle.lola_model.specs.declared.journal.Row.{Row}
use Rattle.lola_model.specs.declared.source.MalformedKind.{MalformedKind}
use Rattle.lola_model.specs.declared.source.MalformedKind.TheVariants as malformed
use Rattle.lola_rows.specs.Line.{begins_with_mark, fields_of_line}
use Rattle.lola_rows.specs.Columns.{Columns}
use Rattle.lola_rows.specs.Lines.{Line, lines_of, without_mark}
use Rattle.lola_rows.specs.Rows.{SourceRows, columns_of_line, flaw_if, flaw_of_line, or_else_flaw, row_before, row_of_fields, row_of_line, row_with, rows_from, rows_of_lines, rows_of_source, rows_under, then_value, time_of, unless, values_of}
use Rattle.lola_rows.specs.declared.columns.Input.{Input}

-- these rows are of this source
abbrev pub AreOf : ℕ → List Row → Type 0
AreOf source rows = AllByRecursion (λ (r : Row). r.source ≡ source) rows

module _ (source most : ℕ) where
  -- where there is a row, it is of this source
  abbrev IsOf : Result Row MalformedKind → Type 0
  IsOf (Ok row) = row.source ≡ source
  IsOf (Err kind) = Unit {0}

  unless_of : (o : Option MalformedKind) (r : Result Row MalformedKind) → IsOf r → IsOf (unless o r)
  unless_of None r is = is
  unless_of (Some kind) r is = tt

  then_of : {X : Type 0} (r : Result X MalformedKind) (f : X → Result Row MalformedKind) → ((x : X) → IsOf (f x)) → IsOf (then_value r f)
  then_of (Ok x) f is = is x
  then_of (Err kind) f is = tt

  -- what is made of fields, once their time is read, and of all of them
  abbrev at_time : Columns → ℕ → List (List ℕ) → ℕ → Result Row MalformedKind
  at_time columns number fields stamp = then_value (or_else_flaw (values_of fields columns.inputs) malformed.BadValue) (λ values. Ok (row_with source number stamp values))

  abbrev of_fields : Columns → ℕ → List (List ℕ) → Result Row MalformedKind
  of_fields columns number fields = then_value (or_else_flaw (time_of fields columns.time) malformed.BadTime) (at_time columns number fields)

  time_of_it : (columns : Columns) (number : ℕ) (fields : List (List ℕ)) (stamp : ℕ) → IsOf (at_time columns number fields stamp)
  time_of_it columns number fields stamp = then_of (or_else_flaw (values_of fields columns.inputs) malformed.BadValue) (λ values. Ok (row_with source number stamp values)) (λ values. refl)

  fields_are : (columns : Columns) (number : ℕ) (fields : List (List ℕ)) → IsOf (row_of_fields source most columns number fields)
  fields_are columns number fields =
      unless_of (flaw_if (not (nat_eq (length fields) columns.width)) malformed.FieldCount) (of_fields columns number fields)
      (then_of (or_else_flaw (time_of fields columns.time) malformed.BadTime) (at_time columns number fields) (time_of_it columns number fields))

  line_is : (columns : Columns) (number : ℕ) (line : Line) → IsOf (row_of_line source most columns number line)
  line_is columns number line =
      let made = row_of_fields source most columns number (fields_of_line line.text) in
      let few : Result Row MalformedKind = unless (flaw_if (nat_lt most number) malformed.TooManyRows) made in
      let marked : Result Row MalformedKind = unless (flaw_if (begins_with_mark line.text) malformed.BadText) few in
      unless_of (flaw_of_line line) marked
      (unless_of (flaw_if (begins_with_mark line.text) malformed.BadText) few
      (unless_of (flaw_if (nat_lt most number) malformed.TooManyRows) made (fields_are columns number (fields_of_line line.text))))

  before_of : (number : ℕ) (r : Result Row MalformedKind) (rest : SourceRows) → IsOf r → AreOf source rest.rows → AreOf source (row_before number r rest).rows
  before_of number (Ok row) rest is are = (is, are)
  before_of number (Err kind) rest is are = tt

  from_of : (columns : Columns) (number : ℕ) (lines : List Line) → AreOf source (rows_from source most columns number lines).rows
  from_of columns number [] = tt
  from_of columns number (line ∷ lines) =
      before_of number (row_of_line source most columns number line) (rows_from source most columns (number + 1) lines) (line_is columns number line) (from_of columns (number + 1) lines)

  under_of : (r : Result Columns MalformedKind) (lines : List Line) → AreOf source (rows_under source most r lines).rows
  under_of (Ok columns) lines = from_of columns 1 lines
  under_of (Err kind) lines = tt

  lines_are : (inputs : List Input) (lines : List Line) → AreOf source (rows_of_lines source most inputs lines).rows
  lines_are inputs [] = tt
  lines_are inputs (line ∷ lines) = under_of (columns_of_line inputs line) lines

pub rows_are_of : (inputs : List Input) (source most : ℕ) (bytes : List ℕ) → AreOf source (rows_of_source inputs source most bytes).rows
unfolding rows_of_source
rows_are_of inputs source most bytes = lines_are source most inputs (lines_of (without_mark bytes))
