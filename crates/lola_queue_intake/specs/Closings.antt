-- The rule of the closing word, and what each look at it and its write tell.
-- The word is 1 exactly where the taker, whose seat is the seat 0, has closed.
use Rattle.std.specs.Prelude.{◌≡◌, ◌≢◌, ℕ, ◌+◌, ◌<◌, Bool, true, false, [], ◌∷◌, ◌++◌, Some, slice_get}
use mathlib.Core.Option.{some}
use lib.ListN.{get_elem?}
use Rattle.atomic_table.specs.Table.{State, Me, Step}
use Rattle.lola_queue_intake.specs.declared.closing.WordView.{WordView}

abbrev pub word_of : Bool → ℕ
word_of false = 0
word_of true = 1

-- a seat that has seen nothing
abbrev pub unseen : WordView
unseen = record { closed = false; found = 0; known = [] }

-- after a look that found 1
abbrev pub after_found : WordView → WordView
after_found v = record v { found = v.found + 1 }

-- the taker, once it has closed
abbrev pub after_close : WordView → WordView
after_close v = record v { closed = true }

-- the taker takes a source's seat back, and then knows how many of its looks found 1
abbrev pub with_returned : WordView → WordView → WordView
with_returned v w = record v { known = v.known ++ w.found ∷ [] }

-- what holds of the seat i
pub record IsViewOfWord (closed : Bool) (i : ℕ) (v : WordView) : Type 0 where
  pub first : i ≡ 0 → v.closed ≡ closed
  pub found : 0 < v.found → closed ≡ true
  pub known : (j n : ℕ) → slice_get v.known j ≡ Some n → 0 < n → closed ≡ true

-- the rule
pub record Closes {S : Type 0} (s : State S WordView) : Type 0 where
  pub closed : Bool
  pub word : s.words ≡ word_of closed ∷ []
  pub each_seat : (i : ℕ) (v : WordView) → get_elem? s.views i ≡ some v → IsViewOfWord closed i v

module _ {S : Type 0} where
  -- a look is counted where it found 1, and changes nothing else
  abbrev pub AfterLook : Step S → Me S WordView → ℕ → Me S WordView → Type 0
  AfterLook st m r m' = (r ≡ 1 → m' ≡ (after_found m.0, m.1)) × (r ≢ 1 → m' ≡ m)

  -- the taker has closed
  abbrev pub AfterWrite : Step S → Me S WordView → ℕ → Me S WordView → Type 0
  AfterWrite st m r m' = m' ≡ (after_close m.0, m.1)

-- at the end: where a look of a source found 1, the taker has closed
abbrev pub IsClosedWhereFound : WordView → Type 0
IsClosedWhereFound v = (j n : ℕ) → slice_get v.known j ≡ Some n → 0 < n → v.closed ≡ true
