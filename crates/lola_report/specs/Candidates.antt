-- The entry that a line is taken for, before that entry is written and compared with the line.
use Rattle.std.specs.Prelude.{ℕ, ℤ, pos, negsuc, ◌+◌, List, [], ◌∷◌, Option, Some, None, option_map, Bool, not, ◌&&◌, if◌then◌else◌, nat_eq, nat_lt, length, codes, slice_get, unwrap_or}
use Rattle.std.specs.Str.{is_utf8}
use Rattle.lola_value.specs.declared.text.Field.{Field}
use Rattle.lola_value.specs.declared.text.Field.TheVariants as field
use Rattle.lola_value.specs.declared.value.Kind.{Kind}
use Rattle.lola_value.specs.declared.value.Kind.TheVariants as kind
use Rattle.lola_value.specs.Arithmetic.{bytes_equal}
use Rattle.lola_value.specs.Kinds.{is_bool, is_text}
use Rattle.lola_value.specs.Times.{read_time}
use Rattle.lola_model.specs.declared.journal.Entry.{Entry}
use Rattle.lola_model.specs.declared.journal.Mark.{Mark}
use Rattle.lola_model.specs.declared.journal.Mark.TheVariants as mark
use Rattle.lola_rows.specs.Line.{fields_of_line, has_line_end}
use Rattle.lola_rows.specs.Values.{and_then, read_number}
use Rattle.lola_report.specs.declared.candidate.Head.{Head}

-- the field at a place, and an empty one behind the last
abbrev pub text_at : List (List ℕ) → ℕ → List ℕ
text_at fields place = unwrap_or (slice_get fields place) []

-- a number that is not negative
abbrev pub natural : ℤ → Option ℕ
natural (pos n) = Some n
natural (negsuc n) = None

-- a number of a kind that is not negative
abbrev pub read_natural : Kind → List ℕ → Option ℕ
read_natural k text = and_then (read_number k text) natural

-- `L` and a time, or an accepted row
abbrev pub read_mark : List ℕ → Option Mark
read_mark [] = Some mark.Accepted
read_mark (b ∷ bs) = if nat_eq b 76 then option_map (λ t. mark.Late t) (read_time bs) else Some mark.Accepted

-- source, number, stamp and mark, from the first four fields
abbrev pub read_head : List (List ℕ) → Option Head
read_head fields =
    and_then (read_natural kind.UInt32 (text_at fields 0))
    (λ source. and_then (read_natural kind.UInt64 (text_at fields 1))
    (λ number. and_then (read_time (text_at fields 2))
    (λ stamp. option_map (λ m. record { source = source; number = number; stamp = stamp; mark = m }) (read_mark (text_at fields 3)))))

-- a text that can stand in a field of a line
abbrev pub is_field_text : List ℕ → Bool
is_field_text text = is_utf8 text && (nat_lt 0 (length text) && not (has_line_end text))

-- a text as a value
abbrev pub read_text : List ℕ → Option Field
read_text text = if is_field_text text then Some (field.Text text) else None

-- a number as a value
abbrev pub read_integer : Kind → List ℕ → Option Field
read_integer k text = option_map (λ z. field.Int z) (read_number k text)

-- the value of an input
abbrev pub read_field : Kind → List ℕ → Option Field
read_field k text =
    if bytes_equal text (codes "#") then Some field.Absent
    else if is_bool k then Some (field.Bool (bytes_equal text (codes "true")))
    else if is_text k then read_text text
    else read_integer k text

-- the values of all inputs, from a place on
abbrev pub read_fields : List (List ℕ) → ℕ → List Kind → Option (List Field)
read_fields fields place [] = Some []
read_fields fields place (k ∷ ks) = and_then (read_field k (text_at fields place)) (λ f. option_map (λ fs. f ∷ fs) (read_fields fields (place + 1) ks))

-- an entry from its parts
abbrev pub entry_with : Head → List Field → Entry
entry_with head values = record { row = record { source = head.source; number = head.number; stamp = head.stamp; fields = values }; mark = head.mark }

-- the entry of the fields of a line
abbrev pub read_entry : List Kind → List (List ℕ) → Option Entry
read_entry kinds fields = and_then (read_head fields) (λ head. option_map (entry_with head) (read_fields fields 4 kinds))

-- the entry of a line, without its LF
abbrev pub candidate_of : List Kind → List ℕ → Option Entry
candidate_of kinds line = if has_line_end line then None else read_entry kinds (fields_of_line line)
