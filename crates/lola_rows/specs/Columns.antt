-- The heading of a source: which field is the time, and which gives an input.
use Rattle.std.specs.Prelude.{ℕ, List, [], ◌∷◌, Option, Some, None, Bool, not, ◌||◌, if◌then◌else◌, nat_eq, nat_lt, length, map, filter, codes, position}
use Rattle.std.specs.List.{list_any, position_or_len}
use Rattle.lola_value.specs.Arithmetic.{bytes_equal}
use Rattle.lola_model.specs.Model.{is_input, filled_kind}
use Rattle.lola_model.specs.declared.spec.Stream.{Stream}
use Rattle.lola_rows.specs.declared.columns.Column.{Column}
use Rattle.lola_rows.specs.declared.columns.Input.{Input}
use Rattle.lola_rows.specs.Blanks.{trimmed}
use Rattle.lola_rows.specs.Line.{begins_with_mark, fields_of_line}

-- the inputs among streams, in order
abbrev pub inputs_of : List Stream → List Input
inputs_of [] = []
inputs_of (s ∷ ss) = if is_input s then record { name = s.name; kind = filled_kind s } ∷ inputs_of ss else inputs_of ss

-- where the fields of rows come from: how many fields a row has, which is its time, and for each input its kind and, where it has one, its field
pub record Columns : Type 0 where
  pub width : ℕ
  pub time : ℕ
  pub inputs : List Column

-- the names of a time column
abbrev pub is_time_name : List ℕ → Bool
is_time_name name = bytes_equal name (codes "time") || (bytes_equal name (codes "ts") || bytes_equal name (codes "timestamp"))

-- the fields of a heading, without blanks around them
abbrev pub titles_of : List ℕ → List (List ℕ)
titles_of text = map trimmed (fields_of_line text)

-- the field of an input: the one with its name, unless that is the time
abbrev pub place_of : List (List ℕ) → List ℕ → Option ℕ
place_of titles name = if is_time_name name then None else position (bytes_equal name) titles

abbrev pub column_of : List (List ℕ) → Input → Column
column_of titles input = record { kind = input.kind; place = place_of titles input.name }

-- two fields have the name of an input
abbrev pub is_twice : List (List ℕ) → Input → Bool
is_twice titles input = nat_lt 1 (length (filter (bytes_equal input.name) titles))

-- the columns of these titles, unless not exactly one is the time, or an input is named twice
abbrev pub columns_in : List Input → List (List ℕ) → Option Columns
columns_in inputs titles =
    if not (nat_eq (length (filter is_time_name titles)) 1) || list_any (is_twice titles) inputs then None
    else Some (record { width = length titles; time = position_or_len is_time_name titles; inputs = map (column_of titles) inputs })

-- the columns of a heading, which does not begin with a byte order mark
abbrev pub columns_of : List Input → List ℕ → Option Columns
columns_of inputs text = if begins_with_mark text then None else columns_in inputs (titles_of text)
