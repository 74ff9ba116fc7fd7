-- What is read of the lines of a state, and where they cannot be read.
use Rattle.std.specs.Prelude.{ℕ, ◌≡◌, ◌+◌, ◌-◌, List, [], ◌∷◌, Option, ◌++◌, flat_map, length}
use Rattle.lola_value.specs.declared.text.Field.{Field}
use Rattle.lola_save_text.specs.Fitting.{time_or}
use Rattle.lola_save_text.specs.Lines.{EndLine, InstLine, PanesLine, RingLine, StreamLine, count_of, instance_lines, panes_lines, streams_lines}
use Rattle.lola_save_text.specs.Places.{AtInst, AtPanes, AtRing, AtStream, Done, behind_instance, behind_panes}
use Rattle.lola_save_text.specs.Shapes.{AreForStream, AreForStreams, AreForWindows}
use Rattle.lola_save_text.specs.declared.forms.StreamForm.{StreamForm}
use Rattle.lola_save_text.specs.declared.forms.WindowForm.{WindowForm}
use Rattle.lola_save_text.specs.declared.state.SavedInstance.{SavedInstance}
use Rattle.lola_save_text.specs.declared.state.SavedPanes.{SavedPanes}
use Rattle.lola_save_text.specs.declared.state.Times.{Times}
use Rattle.lola_save_read.specs.Turns.{Around, AreLinesRead, IsLineRead, IsNoLine, IsRefusedAt, hand}

-- around the stream with this number
abbrev pub around : List StreamForm → ℕ → List StreamForm → Around
around forms number later = record { forms = forms; number = number; later = later }

-- one line

abbrev pub NoStreamLine : Times → ℕ → StreamForm → List ℕ → Type 0
NoStreamLine t n s bytes = (forms later : List StreamForm) → IsNoLine forms (AtStream t n (s ∷ later)) bytes

abbrev pub IsStreamLine : Times → ℕ → StreamForm → List ℕ → ℕ → List ℕ → Type 0
IsStreamLine t n s bytes count rest =
    (forms later : List StreamForm) → IsLineRead forms (AtStream t n (s ∷ later)) bytes (StreamLine n count) (behind_instance (hand (around forms n later) t s count [] (time_or 0 t.start))) rest

abbrev pub NoInstLine : Times → StreamForm → List (List Field) → ℕ → List ℕ → Type 0
NoInstLine t s seen low bytes = (a : Around) (left : ℕ) → IsNoLine a.forms (AtInst (hand a t s left seen low)) bytes

abbrev pub IsInstLine : Times → StreamForm → List (List Field) → ℕ → List ℕ → Option ℕ → List Field → List ℕ → Type 0
IsInstLine t s seen low bytes born params rest =
    (a : Around) (left : ℕ) → IsLineRead a.forms (AtInst (hand a t s left seen low)) bytes (InstLine born params) (AtRing (hand a t s (left - 1) (params ∷ seen) (time_or low born))) rest

abbrev pub NoRingLine : Times → StreamForm → List ℕ → Type 0
NoRingLine t s bytes = (a : Around) (left : ℕ) (seen : List (List Field)) (low : ℕ) → IsNoLine a.forms (AtRing (hand a t s left seen low)) bytes

abbrev pub IsRingLine : Times → StreamForm → List ℕ → List Field → List ℕ → Type 0
IsRingLine t s bytes values rest =
    (a : Around) (left : ℕ) (seen : List (List Field)) (low : ℕ) → IsLineRead a.forms (AtRing (hand a t s left seen low)) bytes (RingLine values) (behind_panes (hand a t s left seen low) s.windows) rest

abbrev pub NoPanesLine : Times → StreamForm → WindowForm → List ℕ → Type 0
NoPanesLine t s w bytes = (a : Around) (left : ℕ) (seen : List (List Field)) (low : ℕ) (ws : List WindowForm) → IsNoLine a.forms (AtPanes (hand a t s left seen low) (w ∷ ws)) bytes

abbrev pub IsPanesLine : Times → StreamForm → WindowForm → List ℕ → Option SavedPanes → List ℕ → Type 0
IsPanesLine t s w bytes panes rest =
    (a : Around) (left : ℕ) (seen : List (List Field)) (low : ℕ) (ws : List WindowForm)
    → IsLineRead a.forms (AtPanes (hand a t s left seen low) (w ∷ ws)) bytes (PanesLine w.number panes) (behind_panes (hand a t s left seen low) ws) rest

abbrev pub NoEndLine : List ℕ → Type 0
NoEndLine bytes = (forms : List StreamForm) (t : Times) (n : ℕ) → IsNoLine forms (AtStream t n []) bytes

abbrev pub IsEndLine : List ℕ → List ℕ → Type 0
IsEndLine bytes rest = (forms : List StreamForm) (t : Times) (n : ℕ) → IsLineRead forms (AtStream t n []) bytes EndLine Done rest

-- the panes of an instance

pub record ReadsPanes (t : Times) (s : StreamForm) (bytes : List ℕ) (ps : List (Option SavedPanes)) (rest : List ℕ) : Type 0 where
  pub shape : AreForWindows s.windows ps
  pub read : (a : Around) (left : ℕ) (seen : List (List Field)) (low : ℕ)
      → AreLinesRead a.forms (behind_panes (hand a t s left seen low) s.windows) bytes (panes_lines s.windows ps) (behind_instance (hand a t s left seen low)) rest

abbrev pub RefusesPanes : Times → StreamForm → List ℕ → ℕ → Type 0
RefusesPanes t s bytes many = (a : Around) (left : ℕ) (seen : List (List Field)) (low : ℕ) → IsRefusedAt a.forms (behind_panes (hand a t s left seen low) s.windows) bytes many

-- an instance, behind those with these parameters

pub record ReadsInstance (t : Times) (s : StreamForm) (seen : List (List Field)) (low : ℕ) (bytes : List ℕ) (i : SavedInstance) (rest : List ℕ) : Type 0 where
  pub shape : AreForWindows s.windows i.panes
  pub read : (a : Around) (left : ℕ)
      → AreLinesRead a.forms (AtInst (hand a t s left seen low)) bytes (instance_lines s i) (behind_instance (hand a t s (left - 1) (i.params ∷ seen) (time_or low i.born))) rest

abbrev pub RefusesInstance : Times → StreamForm → List (List Field) → ℕ → List ℕ → ℕ → Type 0
RefusesInstance t s seen low bytes many = (a : Around) (left : ℕ) → IsRefusedAt a.forms (AtInst (hand a t s left seen low)) bytes many

-- so many instances

pub record ReadsInstances (t : Times) (s : StreamForm) (count : ℕ) (bytes : List ℕ) (is : List SavedInstance) (rest : List ℕ) : Type 0 where
  pub shape : AreForStream s is
  pub many : count_of is ≡ count
  pub read : (a : Around) → AreLinesRead a.forms (behind_instance (hand a t s count [] (time_or 0 t.start))) bytes (flat_map (instance_lines s) is) (AtStream t (a.number + 1) a.later) rest

abbrev pub RefusesInstances : Times → StreamForm → ℕ → List ℕ → ℕ → Type 0
RefusesInstances t s count bytes many = (a : Around) → IsRefusedAt a.forms (behind_instance (hand a t s count [] (time_or 0 t.start))) bytes many

-- a stream

pub record ReadsStream (t : Times) (n : ℕ) (s : StreamForm) (bytes : List ℕ) (is : List SavedInstance) (rest : List ℕ) : Type 0 where
  pub shape : AreForStream s is
  pub read : (forms later : List StreamForm)
      → AreLinesRead forms (AtStream t n (s ∷ later)) bytes (StreamLine n (count_of is) ∷ flat_map (instance_lines s) is) (AtStream t (n + 1) later) rest

abbrev pub RefusesStream : Times → ℕ → StreamForm → List ℕ → ℕ → Type 0
RefusesStream t n s bytes many = (forms later : List StreamForm) → IsRefusedAt forms (AtStream t n (s ∷ later)) bytes many

-- all streams

pub record ReadsStreams (t : Times) (ss : List StreamForm) (bytes : List ℕ) (iss : List (List SavedInstance)) (rest : List ℕ) : Type 0 where
  pub shape : AreForStreams ss iss
  pub read : (forms : List StreamForm) → AreLinesRead forms (AtStream t 0 ss) bytes (streams_lines 0 ss iss) (AtStream t (length ss) []) rest

abbrev pub RefusesStreams : Times → List StreamForm → List ℕ → ℕ → Type 0
RefusesStreams t ss bytes many = (forms : List StreamForm) → IsRefusedAt forms (AtStream t 0 ss) bytes many

-- all streams, the last line, and nothing behind it
pub record ReadsToEnd (t : Times) (ss : List StreamForm) (bytes : List ℕ) (iss : List (List SavedInstance)) : Type 0 where
  pub shape : AreForStreams ss iss
  pub read : (forms : List StreamForm) → AreLinesRead forms (AtStream t 0 ss) bytes (streams_lines 0 ss iss ++ EndLine ∷ []) Done []
