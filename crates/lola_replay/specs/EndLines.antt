-- What is read of a line that may be an end line.
use Rattle.std.specs.Prelude.{ℕ, ◌≡◌, ◌≤◌, ◌+◌, List, [], ◌∷◌, ◌++◌, Option, None, codes, decimal, drop, if◌then◌else◌, length, nat_eq, nat_lt, take}
use Rattle.lola_value.specs.declared.value.Kind.TheVariants as kind
use Rattle.lola_model.specs.declared.source.MalformedKind.{MalformedKind}
use Rattle.lola_model.specs.declared.source.MalformedKind.TheVariants as malformed
use Rattle.lola_report.specs.Candidates.{read_natural}
use Rattle.lola_report.specs.Ends.{malformed_text}
use Rattle.lola_replay.specs.Ends.{most_rows}

-- how many bytes stand before the first space
abbrev pub word_long : List ℕ → ℕ
word_long [] = 0
word_long (b ∷ bs) = if nat_eq b 32 then 0 else word_long bs + 1

-- the number behind so many bytes and before a space
abbrev pub number_in : List ℕ → ℕ → Option ℕ
number_in line place =
    if nat_lt place (length line) then read_natural kind.UInt64 (take (word_long (drop place line)) (drop place line)) else None

-- what stands before the row in the end line for a malformed line of a source
abbrev pub malformed_front : ℕ → List ℕ
malformed_front source = codes "= malformed source " ++ decimal source ++ codes " row "

-- the kinds, by their numbers from 0
abbrev pub kind_at : ℕ → MalformedKind
kind_at n =
    if nat_eq n 0 then malformed.BadHeading
    else if nat_eq n 1 then malformed.FieldCount
    else if nat_eq n 2 then malformed.BadTime
    else if nat_eq n 3 then malformed.BadValue
    else if nat_eq n 4 then malformed.BadText
    else if nat_eq n 5 then malformed.BareCr
    else if nat_eq n 6 then malformed.RowTooLong
    else malformed.TooManyRows

-- the line says that this source has a malformed line
pub record IsMalformedAt (source : ℕ) (line : List ℕ) : Type 0 where
  pub row : ℕ
  pub kind : MalformedKind
  pub in_range : row ≤ most_rows + 1
  pub written : line ≡ malformed_text source row kind
