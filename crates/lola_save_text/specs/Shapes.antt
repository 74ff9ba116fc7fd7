-- As many of each as a plan has: what of a state its lines do not tell.
use Rattle.std.specs.Prelude.{List, [], ◌∷◌, Option}
use Rattle.lola_save_text.specs.Forms.{StreamForm, WindowForm}
use Rattle.lola_save_text.specs.States.{SavedInstance, SavedPanes}

-- panes for each window
abbrev pub AreForWindows : List WindowForm → List (Option SavedPanes) → Type 0
AreForWindows [] [] = Unit {0}
AreForWindows (w ∷ ws) (p ∷ ps) = AreForWindows ws ps
AreForWindows _ _ = ⊥

-- instances of a stream
abbrev pub AreForStream : StreamForm → List SavedInstance → Type 0
AreForStream s [] = Unit {0}
AreForStream s (i ∷ is) = AreForWindows s.windows i.panes × AreForStream s is

-- instances for each stream
abbrev pub AreForStreams : List StreamForm → List (List SavedInstance) → Type 0
AreForStreams [] [] = Unit {0}
AreForStreams (s ∷ ss) (is ∷ iss) = AreForStream s is × AreForStreams ss iss
AreForStreams _ _ = ⊥
