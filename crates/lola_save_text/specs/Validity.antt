-- Which states a plan can have, condition by condition.
use Rattle.std.specs.Prelude.{ℕ, ◌≡◌, ◌≤◌, List, [], ◌∷◌, Option, Some, None, is_some, true, false, length}
use Rattle.std.specs.List.{list_all}
use Rattle.lola_value.specs.declared.text.Field.{Field}
use Rattle.lola_value.specs.declared.value.Kind.{Kind}
use Rattle.lola_save_text.specs.Fitting.{Times, is_start, is_last, most_steps, are_values, is_value, is_among, are_panes, time_or}
use Rattle.lola_save_text.specs.Forms.{WindowForm, StreamForm}
use Rattle.lola_save_text.specs.Lines.{count_of}
use Rattle.lola_save_text.specs.States.{SavedPanes, SavedInstance, SavedState}

-- the panes of each window
abbrev pub AllPanes : Times → Kind → List WindowForm → List (Option SavedPanes) → Type 0
AllPanes t k [] [] = Unit {0}
AllPanes t k (w ∷ ws) (p ∷ ps) = (are_panes t k w p ≡ true) × AllPanes t k ws ps
AllPanes t k _ _ = ⊥

-- no time of birth without a spawn clause, and with it one between two times
abbrev pub IsBorn : StreamForm → ℕ → ℕ → Option ℕ → Type 0
IsBorn s low high None = s.spawns ≡ false
IsBorn s low high (Some t) = (s.spawns ≡ true) × (low ≤ t) × (t ≤ high)

-- an instance by itself: parameters and values are of their kinds; there are no more values than are kept, and none before the
-- first accepted row
pub record IsInstance (t : Times) (s : StreamForm) (i : SavedInstance) : Type 0 where
  pub params : are_values s.parameters i.params ≡ true
  pub ring : list_all (is_value s.kind) i.ring ≡ true
  pub kept : length i.ring ≤ s.kept
  pub none : is_some t.last ≡ false → length i.ring ≡ 0
  pub panes : AllPanes t s.kind s.windows i.panes

-- the instances of a stream, where those before them have the parameters `seen`, and the last of these was born at `low`:
-- times of birth lie from the start to the last accepted row and do not fall, and no two instances have the same parameters
abbrev pub AreInstances : Times → StreamForm → List (List Field) → ℕ → List SavedInstance → Type 0
AreInstances t s seen low [] = Unit {0}
AreInstances t s seen low (i ∷ is) =
    IsInstance t s i × IsBorn s low (time_or 0 t.last) i.born × (is_among i.params seen ≡ false)
    × AreInstances t s (i.params ∷ seen) (time_or low i.born) is

-- a stream: one instance without a spawn clause, at most 65,536 with it, and with it none before the first accepted row
pub record IsStream (t : Times) (s : StreamForm) (is : List SavedInstance) : Type 0 where
  pub plain : s.spawns ≡ false → count_of is ≡ 1
  pub few : s.spawns ≡ true → count_of is ≤ 65536
  pub unborn : s.spawns ≡ true → is_some t.last ≡ false → count_of is ≡ 0
  pub instances : AreInstances t s [] (time_or 0 t.start) is

-- as many streams as the plan has
abbrev pub AreStreams : Times → List StreamForm → List (List SavedInstance) → Type 0
AreStreams t [] [] = Unit {0}
AreStreams t (s ∷ ss) (is ∷ iss) = IsStream t s is × AreStreams t ss iss
AreStreams t _ _ = ⊥

-- the whole state
pub record IsSaved (forms : List StreamForm) (s : SavedState) : Type 0 where
  pub start : is_start s.start ≡ true
  pub last : is_last s.start s.last ≡ true
  pub steps : s.steps ≤ most_steps
  pub streams : AreStreams (record { start = s.start; last = s.last; steps = s.steps }) forms s.streams
