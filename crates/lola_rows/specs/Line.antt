-- The fields of one line, by the words of the crate `csv`.
use Rattle.std.specs.Prelude.{◌≡◌, ◌==◌, ◌||◌, Bool, false, ℕ, List, [], ◌∷◌, Option, Some, None}
use Rattle.std.specs.List.{list_any}
use Rattle.csv.specs.Machine.{Read, next_record}
use Rattle.csv.specs.Reading.{default_config, is_bom}
use Rattle.csv.specs.declared.parser.State.TheVariants as st

-- the fields of a record that was read, and none where there was no record
abbrev pub fields_read : Option Read → List (List ℕ)
fields_read None = []
fields_read (Some r) = r.0

-- the fields that csv gives for a line alone: with the reader's defaults, and no heading
abbrev pub fields_of_line : List ℕ → List (List ℕ)
fields_of_line line = fields_read (next_record default_config st.StartRecord [] [] line)

abbrev pub is_comma : ℕ → Bool
is_comma b = b == 44

abbrev pub is_quote : ℕ → Bool
is_quote b = b == 34

-- a byte that ends a line for csv
abbrev pub ends_line : ℕ → Bool
ends_line b = (b == 13) || (b == 10)

-- a double quote is in a line
abbrev pub has_quote : List ℕ → Bool
has_quote line = list_any is_quote line

-- a line is more than one for csv
abbrev pub has_line_end : List ℕ → Bool
has_line_end line = list_any ends_line line

-- the field at the start of a text is these bytes, and this comes after it
abbrev pub IsField : List ℕ → List ℕ → List ℕ → Type 0
IsField text field rest = (fields : List (List ℕ)) → next_record default_config st.StartField fields [] text ≡ next_record default_config st.InField fields field rest

-- a line begins with the bytes of the byte order mark
abbrev pub begins_with_mark : List ℕ → Bool
begins_with_mark [] = false
begins_with_mark (a ∷ []) = false
begins_with_mark (a ∷ b ∷ []) = false
begins_with_mark (a ∷ b ∷ c ∷ rest) = is_bom a b c
