-- A line without its LF, and what has to hold of it where it stands.
use Rattle.std.specs.Prelude.{ℕ, ◌≡◌, List, [], ◌++◌, Option, true, codes}
use Rattle.lola_value.specs.declared.text.Field.{Field}
use Rattle.lola_value.specs.declared.value.Kind.{Kind}
use Rattle.lola_save_text.specs.Fitting.{are_panes}
use Rattle.lola_save_text.specs.declared.state.Times.{Times}
use Rattle.lola_save_text.specs.declared.forms.StreamForm.{StreamForm}
use Rattle.lola_save_text.specs.declared.forms.WindowForm.{WindowForm}
use Rattle.lola_save_text.specs.Lines.{InstLine, PanesLine, RingLine, StreamLine, line_body, time_or_dash, word}
use Rattle.lola_save_text.specs.Places.{are_params, is_birth, is_count, is_ring}
use Rattle.lola_save_text.specs.declared.state.SavedPanes.{SavedPanes}
use Rattle.lola_save_read.specs.Turns.{Around, hand}
use Rattle.lola_save_read.specs.Words.{IsWordEnd}

-- the line of a stream with this number, with so many instances
pub record IsStreamBody (t : Times) (number : ℕ) (s : StreamForm) (body : List ℕ) (count : ℕ) : Type 0 where
  pub fits : is_count t s count ≡ true
  pub spelled : body ≡ line_body (StreamLine number count)

-- nothing stands around a stream
abbrev pub alone : Around
alone = record { forms = []; number = 0; later = [] }

-- the line of an instance begins with its birth, and what stands behind that
pub record IsBirthBehind (t : Times) (s : StreamForm) (low : ℕ) (body : List ℕ) (born : Option ℕ) (rest : List ℕ) : Type 0 where
  pub birth : is_birth (hand alone t s 1 [] low) born ≡ true
  pub whole : body ≡ codes "inst" ++ (word (time_or_dash born) ++ rest)
  pub ends : IsWordEnd rest

-- the line of an instance of a stream, behind those with the parameters `seen`, the last of which was born at `low`
pub record IsInstBody (t : Times) (s : StreamForm) (seen : List (List Field)) (low : ℕ) (body : List ℕ) (born : Option ℕ) (params : List Field) : Type 0 where
  pub birth : is_birth (hand alone t s 1 seen low) born ≡ true
  pub params_fit : are_params (hand alone t s 1 seen low) params ≡ true
  pub spelled : body ≡ line_body (InstLine born params)

-- the line of an instance's values
pub record IsRingBody (t : Times) (s : StreamForm) (body : List ℕ) (values : List Field) : Type 0 where
  pub fits : is_ring (hand alone t s 1 [] 0) values ≡ true
  pub spelled : body ≡ line_body (RingLine values)

-- the line of a window's panes
pub record IsPanesBody (t : Times) (kind : Kind) (w : WindowForm) (body : List ℕ) (panes : Option SavedPanes) : Type 0 where
  pub fits : are_panes t kind w panes ≡ true
  pub spelled : body ≡ line_body (PanesLine w.number panes)
