-- How a reader goes on from a place: what it reads of bytes, and where it cannot read them.
use Rattle.std.specs.Prelude.{ℕ, ◌≡◌, List, [], ◌∷◌, ◌++◌, Some, None, length}
use Rattle.lola_value.specs.declared.text.Field.{Field}
use Rattle.lola_save_text.specs.Fitting.{time_or}
use Rattle.lola_save_text.specs.declared.state.Times.{Times}
use Rattle.lola_save_text.specs.declared.forms.StreamForm.{StreamForm}
use Rattle.lola_save_text.specs.Lines.{StateLine, line_text, lines_text}
use Rattle.lola_save_text.specs.Places.{Hand, Place, Done, next}
use Rattle.lola_save_text.specs.Runs.{run}
use Rattle.lola_save_text.specs.declared.state.SavedInstance.{SavedInstance}

-- what a reader of one stream's lines does not look at: all streams, the number of that in hand, and those behind it
pub record Around : Type 0 where
  pub forms : List StreamForm
  pub number : ℕ
  pub later : List StreamForm

-- a stream in hand, with so many instances to come
abbrev pub hand : Around → Times → StreamForm → ℕ → List (List Field) → ℕ → Hand
hand a t s left seen low = record { times = t; number = a.number; form = s; left = left; seen = seen; low = low; high = time_or 0 t.last; later = a.later }

-- the parameters of some instances, the last first, before those that were there
abbrev pub seen_after : List (List Field) → List SavedInstance → List (List Field)
seen_after seen [] = seen
seen_after seen (i ∷ is) = seen_after (i.params ∷ seen) is

-- the time from which on an instance behind some others may be born
abbrev pub low_after : ℕ → List SavedInstance → ℕ
low_after low [] = low
low_after low (i ∷ is) = low_after (time_or low i.born) is

-- bytes begin with a line that may stand at a place, and what stands behind it
pub record IsLineRead (forms : List StreamForm) (p : Place) (bytes : List ℕ) (l : StateLine) (q : Place) (rest : List ℕ) : Type 0 where
  pub written : bytes ≡ line_text l ++ rest
  pub accepted : next forms p l ≡ Some q

-- bytes begin with no line that may stand at a place
abbrev pub IsNoLine : List StreamForm → Place → List ℕ → Type 0
IsNoLine forms p bytes = (l : StateLine) (rest : List ℕ) → bytes ≡ line_text l ++ rest → next forms p l ≡ None

-- bytes begin with lines that may stand from a place on, up to another, and what stands behind them
pub record AreLinesRead (forms : List StreamForm) (p : Place) (bytes : List ℕ) (ls : List StateLine) (q : Place) (rest : List ℕ) : Type 0 where
  pub written : bytes ≡ lines_text ls ++ rest
  pub accepted : run forms p ls ≡ Some q

-- from a place on, bytes cannot be read where so many are left: lines before that may stand there, and no line that may stand at
-- the next place begins the others, nor is there the end
pub record IsRefusedAt (forms : List StreamForm) (p : Place) (bytes : List ℕ) (many : ℕ) : Type 0 where
  pub before : List StateLine
  pub place : Place
  pub left : List ℕ
  pub read : AreLinesRead forms p bytes before place left
  pub many_is : length left ≡ many
  pub refused : IsNoLine forms place left
  pub unended : place ≡ Done → left ≡ [] → ⊥
