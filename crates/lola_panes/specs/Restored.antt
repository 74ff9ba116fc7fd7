-- Panes that are restored from their partial results.
use Rattle.std.specs.Prelude.{ℕ, ◌+◌, ◌-◌, ◌*◌, ◌≡◌, ◌≤◌, ℤ, pos, ◌+ℤ◌, if◌then◌else◌, nat_eq, List, [], ◌∷◌, ◌++◌, length, Option, Some, None}
use Rattle.circular_buffer.specs.Buffer.{keep_last}
use Rattle.lola_model.specs.declared.spec.Agg.{Agg}
use Rattle.lola_value.specs.declared.value.Kind.{Kind}
use Rattle.lola_value.specs.declared.text.Field.{Field}
use Rattle.lola_panes.specs.declared.pane.Pane.{Pane}
use Rattle.lola_panes.specs.declared.partial.Partial.{Partial}
use Rattle.lola_panes.specs.Holding.{AllWithin}
use Rattle.lola_panes.specs.Parts.{ArePartials, counted, totalled, extreme_in}
use Rattle.lola_panes.specs.Rings.{new_pane, noted, unbeaten}
use Rattle.lola_panes.specs.Standing.{newest_of}

-- the least offset that lies in pane n
abbrev pub first_offset : ℕ → ℕ → ℕ
first_offset pane n = if nat_eq n 0 then 0 else (n - 1) * pane + 1

-- offsets that are no less than this
abbrev pub AllFrom : ℕ → List (ℕ × Field) → Type 0
AllFrom o [] = Unit {0}
AllFrom o (v ∷ vs) = (o ≤ v.0) × AllFrom o vs

-- offsets do not fall
abbrev pub InOrder : List (ℕ × Field) → Type 0
InOrder [] = Unit {0}
InOrder (v ∷ vs) = AllFrom v.0 vs × InOrder vs

-- values of a kind in the order of time, whose newest lies in pane `last`, and whose panes up to that one have these partial
-- results
pub record AreRestored (how : Agg) (kind : Kind) (pane last : ℕ) (parts : List Partial) (all : List (ℕ × Field)) : Type 0 where
  pub within : AllWithin kind all
  pub order : InOrder all
  pub newest : newest_of pane all ≡ Some last
  pub folds : ArePartials how pane (last + 1 - length parts) parts all

-- a pane behind so many values of this total, if it is kept
abbrev pub restored_pane : ℕ → ℕ → ℤ → Option ℤ → List Pane
restored_pane number count sum None = []
restored_pane number count sum (Some z) = new_pane number count sum z ∷ []

-- the panes of these partial results, of which the first has this number
abbrev pub restored_panes : Agg → ℕ → ℕ → ℤ → List Partial → List Pane
restored_panes how number count sum [] = []
restored_panes how number count sum (q ∷ qs) =
    restored_pane number count sum (extreme_in q) ++ restored_panes how (number + 1) (count + counted how q) (sum +ℤ totalled how q) qs

-- the best of the panes with one more pane behind them, if it is kept
abbrev pub bettered_by : ℕ → Agg → ℕ → Option ℤ → List Pane → List Pane
bettered_by most how number None rs = rs
bettered_by most how number (Some z) rs = keep_last most (noted how number 0 (pos 0) z (unbeaten how z rs))

-- the best of the panes of these partial results, behind others
abbrev pub restored_best : ℕ → Agg → ℕ → List Partial → List Pane → List Pane
restored_best most how number [] rs = rs
restored_best most how number (q ∷ qs) rs = restored_best most how (number + 1) qs (bettered_by most how number (extreme_in q) rs)

-- what partial results add to a total together
abbrev pub whole_of : Agg → List Partial → ℤ
whole_of how [] = pos 0
whole_of how (q ∷ qs) = totalled how q +ℤ whole_of how qs
