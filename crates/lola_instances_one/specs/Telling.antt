-- What a value does to the panes that it is given to.
use Rattle.std.specs.Prelude.{ℕ, ◌≤◌, ◌<◌, ◌≡◌, ◌+◌, ◌^◌, List, [], ◌∷◌, ◌++◌, IsTrue}
use Rattle.lola_value.specs.declared.text.Field.{Field}
use Rattle.lola_value.specs.declared.value.Kind.{Kind}
use Rattle.lola_value.specs.declared.value.Value.{Value}
use Rattle.lola_value.specs.Kinds.{is_of_kind}
use Rattle.lola_value.specs.Naming.{Naming, read}
use Rattle.lola_panes.specs.Standing.{Partials, StandFor, SameWindow}

-- panes that can be given a value at an offset
pub record IsReady (at : ℕ) (v : Value) (p : Partials) : Type 0 where
  pub offset : p.newest ≤ at
  pub added : p.added < 2 ^ 63
  pub kind : IsTrue (is_of_kind p.kind v)

-- all of these can
abbrev pub AllReady : ℕ → Value → List Partials → Type 0
AllReady offset v [] = Unit {0}
AllReady offset v (p ∷ ps) = IsReady offset v p × AllReady offset v ps

-- what becomes of panes that are given a value
pub record Told (offset : ℕ) (v : Value) (p q : Partials) : Type 0 where
  pub window : SameWindow q p
  pub newest : q.newest ≡ offset
  pub added : q.added ≡ p.added + 1
  pub all : (names : Naming) (all : List (ℕ × Field)) → StandFor p all → StandFor q (all ++ (offset, read names v) ∷ [])

-- the same of each window's panes
abbrev pub ToldAll : ℕ → Value → List Partials → List Partials → Type 0
ToldAll offset v [] [] = Unit {0}
ToldAll offset v (p ∷ ps) (q ∷ qs) = Told offset v p q × ToldAll offset v ps qs
ToldAll offset v _ _ = ⊥

-- panes that were given at most so many values of a kind, none of them after an offset
abbrev pub AllGiven : ℕ → ℕ → Kind → List Partials → Type 0
AllGiven offset most kind [] = Unit {0}
AllGiven offset most kind (p ∷ ps) = ((p.newest ≤ offset) × (p.added ≤ most) × (p.kind ≡ kind)) × AllGiven offset most kind ps
