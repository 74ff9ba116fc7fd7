-- The lines of a source, as a function of all its bytes.
use Rattle.std.specs.Prelude.{ℕ, List, [], ◌∷◌, Bool, true, false, if◌then◌else◌, nat_eq, length}
use Rattle.std.specs.List.{slice_split}
use Rattle.csv.specs.Reading.{is_bom}

-- the byte that ends a line
abbrev pub is_line_end : ℕ → Bool
is_line_end b = nat_eq b 10

-- a carriage return
abbrev pub is_return : ℕ → Bool
is_return b = nat_eq b 13

-- the longest line, without its line feed
abbrev pub longest_line : ℕ
longest_line = 65536

-- bytes without one byte order mark at their start
abbrev pub without_mark : List ℕ → List ℕ
without_mark [] = []
without_mark (a ∷ []) = a ∷ []
without_mark (a ∷ b ∷ []) = a ∷ b ∷ []
without_mark (a ∷ b ∷ c ∷ rest) = if is_bom a b c then rest else a ∷ b ∷ c ∷ rest

-- bytes without one carriage return at their end
abbrev pub without_return : List ℕ → List ℕ
without_return [] = []
without_return (b ∷ []) = if is_return b then [] else b ∷ []
without_return (b ∷ c ∷ bytes) = b ∷ without_return (c ∷ bytes)

-- a line: how many bytes stand before its line feed or the end, and these without one carriage return before the line feed
pub record Line : Type 0 where
  pub size : ℕ
  pub text : List ℕ

-- no byte is there
abbrev pub is_empty : List ℕ → Bool
is_empty [] = true
is_empty (b ∷ bytes) = false

-- a line before others: an empty one is skipped
abbrev pub line_before : Line → List Line → List Line
line_before line lines = if is_empty line.text then lines else line ∷ lines

-- bytes that a line feed ends, and those behind the last one
abbrev pub ended_line : List ℕ → Line
ended_line bytes = record { size = length bytes; text = without_return bytes }

abbrev pub last_line : List ℕ → Line
last_line bytes = record { size = length bytes; text = bytes }

-- the lines between line feeds
abbrev pub lines_between : List (List ℕ) → List Line
lines_between [] = []
lines_between (last ∷ []) = line_before (last_line last) []
lines_between (part ∷ next ∷ parts) = line_before (ended_line part) (lines_between (next ∷ parts))

-- the lines of bytes
abbrev pub lines_of : List ℕ → List Line
lines_of bytes = lines_between (slice_split is_line_end bytes)
