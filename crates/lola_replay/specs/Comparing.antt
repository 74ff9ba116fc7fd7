-- Lines that are compared with those of a text, one after another.
use Rattle.std.specs.Prelude.{ℕ, ◌≡◌, ◌≢◌, ◌<◌, ◌+◌, List, [], ◌∷◌, ◌++◌, ◌&&◌, Option, Some, None, Bool, if◌then◌else◌, drop, length, nat_eq, nat_lt, slice_get, take}
use Rattle.lola_value.specs.Arithmetic.{bytes_equal}
use Rattle.lola_replay.specs.LinesOf.{lines_of}
use Rattle.lola_replay.specs.declared.compare.Compared.{Compared}

-- how long the first line of a text is, with its LF if it has one
abbrev pub line_long : List ℕ → ℕ
line_long [] = 0
line_long (b ∷ bs) = if nat_eq b 10 then 1 else line_long bs + 1

-- what is left of the text, how many lines were the same, and the number of the first other line, from 1, if there was one
pub record Comparison : Type 0 where
  pub rest : List ℕ
  pub lines : ℕ
  pub other : Option ℕ

-- whether this is the first line of what is left
abbrev pub is_first_line : List ℕ → List ℕ → Bool
is_first_line line rest = nat_lt 0 (length rest) && bytes_equal (take (line_long rest) rest) line

-- where all were the same so far, after one more line
abbrev pub compared_if : Bool → Comparison → Comparison
compared_if same c =
    if same then record { rest = drop (line_long c.rest) c.rest; lines = c.lines + 1; other = None }
    else record { rest = c.rest; lines = c.lines; other = Some (c.lines + 1) }

-- after one more line
abbrev pub after_line : Comparison → List ℕ → Comparison
after_line c line = elim c.other [ None ↦ compared_if (is_first_line line c.rest) c | Some n ↦ c ]

-- after more lines
abbrev pub after_lines : Comparison → List (List ℕ) → Comparison
after_lines c [] = c
after_lines c (line ∷ lines) = after_lines (after_line c line) lines

-- before the first line
abbrev pub uncompared : List ℕ → Comparison
uncompared text = record { rest = text; lines = 0; other = None }

-- how far a comparison is
abbrev pub comparison : Compared → Comparison
comparison c = record { rest = c.rest.now; lines = c.lines; other = c.other }

-- the first line that is another one
pub record IsFirstOther (lines shown : List (List ℕ)) (n : ℕ) : Type 0 where
  pub place : ℕ
  pub number : n ≡ place + 1
  pub within : place < length shown
  pub same : (k : ℕ) → k < place → slice_get lines k ≡ slice_get shown k
  pub other : slice_get lines place ≢ slice_get shown place

-- what is known of a text whose lines were compared with these
abbrev pub IsCompared : List ℕ → List (List ℕ) → Comparison → Option ℕ → Type 0
IsCompared text shown c None = (lines_of text ≡ shown ++ lines_of c.rest) × (c.lines ≡ length shown)
IsCompared text shown c (Some n) = IsFirstOther (lines_of text) shown n

-- of a comparison by code
abbrev pub IsComparedBy : List ℕ → List (List ℕ) → Compared → Type 0
IsComparedBy text shown c = IsCompared text shown (comparison c) c.other
