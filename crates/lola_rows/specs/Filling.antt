-- How a line comes to be held.
use Rattle.std.specs.Prelude.{Bool, true, nat_eq, if◌then◌else◌, ◌≡◌, ℕ, ◌+◌, ◌<◌, ◌≤◌, List, [], ◌∷◌, ◌++◌, Option, false, length, take, drop, Some, None, position, option_map}
use Rattle.std.specs.Io.KnownBytes.{IsAtEnd, prepend_known}
use Rattle.std.specs.List.{list_any}
use Rattle.lola_port.specs.States.{Moved, Rose, SourceState}
use Rattle.lola_rows.specs.Lines.{Line, is_line_end, lines_of, longest_line}
use Rattle.lola_rows.specs.declared.fill.Filled.{Filled}
use Rattle.lola_rows.specs.declared.fill.Filled.TheVariants as filled
use Rattle.lola_rows.specs.declared.seek.Extent.{Extent}
use Rattle.lola_rows.specs.declared.stage.Section.{Section}
use Rattle.lola_rows.specs.declared.stage.Section.TheVariants as stage
use Rattle.lola_rows.specs.declared.seek.Found.{Found}
use Rattle.lola_rows.specs.declared.seek.Found.TheVariants as found

-- one read put so many bytes behind those held
pub record Took (count : ℕ) (held0 held1 : List ℕ) (old new : SourceState) : Type 0 where
  pub bytes : List ℕ
  pub joined : held1 ≡ held0 ++ bytes
  pub count_is : length bytes ≡ count
  pub moved : Moved old new bytes

-- bytes came in behind those held
pub record Brought (held0 held1 : List ℕ) (old new : SourceState) : Type 0 where
  pub content : prepend_known held1 new.left ≡ prepend_known held0 old.left
  pub size : new.to_come + length held1 ≤ old.to_come + length held0
  pub count : new.count ≡ old.count
  pub place : new.place ≡ old.place

-- a read failed, before a line was held whole
pub record Failed (held0 held1 : List ℕ) (old new : SourceState) : Type 0 where
  pub content : prepend_known held1 new.left ≡ prepend_known held0 old.left
  pub unended : list_any is_line_end held1 ≡ false
  pub size : new.to_come + length held1 ≤ old.to_come + length held0
  pub later : old.count ≤ new.count
  pub rose : Rose old.count new.count
  pub place : new.place ≡ old.place

-- a line is held whole, or none will come. A byte order mark before the first line may be held with it
abbrev pub Fills : Filled → List ℕ → List ℕ → SourceState → SourceState → Type 0
Fills (filled.Line n) held0 held1 old new = (position is_line_end held1 ≡ Some n) × Brought held0 held1 old new
Fills filled.Last held0 held1 old new = (position is_line_end held1 ≡ None) × IsAtEnd new.left × Brought held0 held1 old new
Fills filled.TooLong held0 held1 old new = (position is_line_end held1 ≡ None) × (longest_line + 3 < length held1) × Brought held0 held1 old new
Fills filled.ReadFailed held0 held1 old new = Failed held0 held1 old new

-- empty lines were taken, and bytes came in
pub record Sought (held0 held1 : List ℕ) (old new : SourceState) : Type 0 where
  pub lines : option_map lines_of (prepend_known held1 new.left) ≡ option_map lines_of (prepend_known held0 old.left)
  pub size : new.to_come + length held1 ≤ old.to_come + length held0
  pub count : new.count ≡ old.count
  pub place : new.place ≡ old.place

-- the same, and then a read failed
pub record Lost (held0 held1 : List ℕ) (old new : SourceState) : Type 0 where
  pub lines : option_map lines_of (prepend_known held1 new.left) ≡ option_map lines_of (prepend_known held0 old.left)
  pub unended : list_any is_line_end held1 ≡ false
  pub later : old.count ≤ new.count
  pub rose : Rose old.count new.count
  pub place : new.place ≡ old.place

-- what a search found, as a line: so many of the first bytes held
abbrev pub line_at : Extent → List ℕ → Line
line_at e held = record { size = e.size; text = take e.text held }

-- a line that no line feed ends
abbrev pub is_last : Extent → Bool
is_last e = nat_eq e.whole e.size

-- what a reader looks at behind the line of a row
abbrev pub stage_behind : Extent → Section
stage_behind e = if is_last e then stage.Over else stage.Rows

-- a line stands at the front of the bytes held
pub record IsFront (e : Extent) (held : List ℕ) (left : Option (List ℕ)) : Type 0 where
  pub some : 0 < e.whole
  pub inside : e.whole ≤ length held
  pub short : e.text ≤ e.whole
  pub unended : list_any is_line_end (take e.text held) ≡ false
  pub lines : (bytes : List ℕ) → left ≡ Some bytes → lines_of (held ++ bytes) ≡ line_at e held ∷ lines_of (drop e.whole held ++ bytes)
  pub last : is_last e ≡ true → (bytes : List ℕ) → left ≡ Some bytes → lines_of (drop e.whole held ++ bytes) ≡ []

-- lines of which the first is too long
pub record BeginsTooLong (lines : List Line) : Type 0 where
  pub line : Line
  pub others : List Line
  pub lines_are : lines ≡ line ∷ others
  pub long : longest_line < line.size

-- the next line that is not empty was found, or why not
abbrev pub Finds : Found → List ℕ → List ℕ → SourceState → SourceState → Type 0
Finds (found.Line e) held0 held1 old new = Sought held0 held1 old new × IsFront e held1 new.left
Finds found.TooLong held0 held1 old new = Sought held0 held1 old new × ((bytes : List ℕ) → new.left ≡ Some bytes → BeginsTooLong (lines_of (held1 ++ bytes)))
Finds found.Nothing held0 held1 old new = Sought held0 held1 old new × ((bytes : List ℕ) → new.left ≡ Some bytes → lines_of (held1 ++ bytes) ≡ [])
Finds found.ReadFailed held0 held1 old new = Lost held0 held1 old new

-- bytes without a line feed, as the last line
abbrev pub LastFound : Found → List ℕ → Type 0
LastFound (found.Line e) held = (0 < length held) × (e ≡ record { size = length held; text = length held; whole = length held })
LastFound found.TooLong held = ⊥
LastFound found.Nothing held = held ≡ []
LastFound found.ReadFailed held = ⊥
