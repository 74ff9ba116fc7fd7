-- What the parts of one call of a reader do.
use Rattle.std.specs.Prelude.{ℕ, ◌≡◌, ◌≤◌, ◌⊎◌, List, [], ◌∷◌, ◌++◌, length, Bool, true, false, Option, Some, None, Result, Ok, Err}
use Rattle.lola_value.specs.declared.text.Field.{Field}
use Rattle.lola_model.specs.declared.journal.Row.{Row}
use Rattle.lola_model.specs.declared.source.MalformedKind.{MalformedKind}
use Rattle.lola_rows.specs.declared.answer.Ending.{Ending}
use Rattle.lola_rows.specs.declared.answer.Ending.TheVariants as ending
use Rattle.lola_rows.specs.declared.flaw.Flaw.{Flaw}
use Rattle.lola_rows.specs.declared.flaw.Flaw.TheVariants as flaw
use Rattle.std.specs.Io.KnownBytes.{IsAtEnd}
use Rattle.std.specs.List.{list_any}
use Rattle.lola_rows.specs.Filling.{BeginsTooLong, IsFront}
use Rattle.lola_rows.specs.Lines.{is_line_end, lines_of}
use Rattle.lola_rows.specs.declared.fill.Filled.{Filled}
use Rattle.lola_rows.specs.declared.fill.Filled.TheVariants as filled
use Rattle.lola_rows.specs.declared.seek.Found.{Found}
use Rattle.lola_rows.specs.declared.seek.Found.TheVariants as found
use Rattle.lola_rows.specs.Reading.{BrokeOff, GaveRow, Reading, Stops, rest_of, size_of}

-- bytes were read, or the heading was taken: what the reader still gives is the same
pub record Goes (old new : Reading) : Type 0 where
  pub rest : rest_of new ≡ rest_of old
  pub size : size_of new ≤ size_of old
  pub given : new.given ≡ old.given
  pub shape : new.shape ≡ old.shape
  pub count : new.source.count ≡ old.source.count

-- so much is held of the start of a source that a byte order mark would be held whole
abbrev pub ShowsMark : List ℕ → Option (List ℕ) → Type 0
ShowsMark held left = (3 ≤ length held) ⊎ ((list_any is_line_end held ≡ true) ⊎ IsAtEnd left)

-- so much is held, or a read failed
abbrev pub Fills : Filled → Reading → Reading → Type 0
Fills (filled.Line n) old new = Goes old new × ShowsMark new.held new.source.left
Fills filled.Last old new = Goes old new × ShowsMark new.held new.source.left
Fills filled.TooLong old new = Goes old new × ShowsMark new.held new.source.left
Fills filled.ReadFailed old new = BrokeOff old new

-- the next line that is not empty stands at the front, or why not
abbrev pub Seeks : Found → Reading → Reading → Type 0
Seeks (found.Line e) old new = Goes old new × IsFront e new.held new.source.left
Seeks found.TooLong old new = Goes old new × ((bytes : List ℕ) → new.source.left ≡ Some bytes → BeginsTooLong (lines_of (new.held ++ bytes)))
Seeks found.Nothing old new = Goes old new × ((bytes : List ℕ) → new.source.left ≡ Some bytes → lines_of (new.held ++ bytes) ≡ [])
Seeks found.ReadFailed old new = BrokeOff old new

-- the byte order mark was dropped, or the heading was taken, or why not
abbrev pub Begins : Result (Unit {0}) Ending → Reading → Reading → Type 0
Begins (Ok done) old new = Goes old new
Begins (Err how) old new = Stops how old new

-- the heading stands behind, or how the reader has ended
abbrev pub Opens : Result (Unit {0}) Ending → Reading → Reading → Type 0
Opens (Ok done) old new = Goes old new × (new.ended ≡ None)
Opens (Err how) old new = Stops how old new × (new.ended ≡ Some how)

-- a row was taken, or there is none
abbrev pub Takes : Result Row Ending → Reading → Reading → Type 0
Takes (Ok row) old new = GaveRow row old new
Takes (Err how) old new = Stops how old new

-- a value that is made, or what is wrong; want of memory says nothing
abbrev pub Makes : {X Y : Type 0} → (X → Y) → Result X Flaw → Result Y MalformedKind → Type 0
Makes view (Ok x) made = made ≡ Ok (view x)
Makes view (Err (flaw.Malformed kind)) made = made ≡ Err kind
Makes view (Err flaw.Memory) made = Unit {0}

-- nothing is wrong, or this
abbrev pub Tells : Result (Unit {0}) MalformedKind → Option MalformedKind → Type 0
Tells (Ok done) wrong = wrong ≡ None
Tells (Err kind) wrong = wrong ≡ Some kind

-- a value was put behind others, or there is none
abbrev pub Pushes : Bool → Option Field → List Field → List Field → Type 0
Pushes true value old new = (field : Field) × (value ≡ Some field) × (new ≡ old ++ field ∷ [])
Pushes false value old new = value ≡ None

-- how a reader ends at a flaw of the row with this number
abbrev pub ending_of : Flaw → ℕ → Ending
ending_of (flaw.Malformed kind) row = ending.Malformed kind row
ending_of flaw.Memory row = ending.Memory
