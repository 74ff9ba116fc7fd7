-- The lines of the trace: which are joined by commas, and what a writer has written of one.
use Rattle.std.specs.Prelude.{ℕ, ◌≡◌, ◌==◌, ◌||◌, ◌&&◌, ◌-◌, ◌^◌, List, [], ◌∷◌, ◌++◌, Bool, not, length, min, decimal, flat_map, Vec}
use Rattle.std.specs.List.{list_any}
use Rattle.std.specs.declared.alloc.Global.{Global}
use Rattle.csv.specs.Writing.{default_writer, fields_written, has_written, is_blank, needs_quotes, row_body, writer_pending, writer_setup, writer_under}
use Rattle.csv.specs.declared.writer.Writer.{Writer}
use Rattle.lola_value.specs.declared.text.Field.{Field}
use Rattle.lola_value.specs.Times.{time_text}
use Rattle.lola_model.specs.declared.journal.Entry.{Entry}
use Rattle.lola_model.specs.declared.journal.Row.{Row}
use Rattle.lola_model.specs.Trace.{field_bytes, mark_text}

-- a field that calls for quotes
abbrev pub is_quoted : Field → Bool
is_quoted f = needs_quotes default_writer (field_bytes f)

-- one of these does
abbrev pub has_quoted : List Field → Bool
has_quoted fs = list_any is_quoted fs

-- fields as they are, each behind a comma
abbrev pub joined_fields : List Field → List ℕ
joined_fields fs = flat_map (λ f. 44 ∷ field_bytes f) fs

-- the source, the number and the time of a row, each with a comma behind it
abbrev pub head_text : Row → List ℕ
head_text r = decimal r.source ++ (44 ∷ (decimal r.number ++ (44 ∷ (time_text r.stamp ++ (44 ∷ [])))))

-- the mark and the fields of an entry as they are, with commas between them, and then LF
abbrev pub marked_line : Entry → List ℕ
marked_line e = mark_text e.mark ++ (joined_fields e.row.fields ++ 10 ∷ [])

-- the fields of an entry as they are, with commas between them, and then LF
abbrev pub joined_line : Entry → List ℕ
joined_line e = head_text e.row ++ marked_line e

-- what stands before the fields of the inputs
abbrev pub head_fields : Entry → List (List ℕ)
head_fields e = decimal e.row.source ∷ decimal e.row.number ∷ time_text e.row.stamp ∷ mark_text e.mark ∷ []

-- a writer of csv into memory
abbrev pub RowWriter : Type 0
RowWriter = Writer (Vec ℕ Global)

-- all that it was given to write
abbrev pub written : RowWriter → List ℕ
written w = (writer_under w).items ++ writer_pending w

-- how many fields a writer counts
abbrev pub counted : ℕ → ℕ
counted n = min n (2 ^ 64 - 1)

-- with its defaults it has written these fields of a line, and nothing else
pub record HasFields (w : RowWriter) (fields : List (List ℕ)) : Type 0 where
  pub setup : writer_setup w ≡ default_writer
  pub text : written w ≡ row_body default_writer fields
  pub count : fields_written w ≡ counted (length fields)
  pub blank : is_blank default_writer fields ≡ (not (has_written w) && ((length fields == 0) || (length fields == 1)))
