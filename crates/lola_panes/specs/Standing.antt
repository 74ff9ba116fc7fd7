-- What panes show of themselves, and which lists of values they stand for.
use Rattle.std.specs.Prelude.{ℕ, ℤ, pos, ◌≡◌, ◌≤◌, ◌^◌, List, [], ◌∷◌, length, Bool, true, false, IsTrue, if◌then◌else◌, Option, Some, None}
use Rattle.lola_model.specs.declared.spec.Agg.{Agg}
use Rattle.lola_value.specs.declared.value.Kind.{Kind}
use Rattle.lola_value.specs.declared.text.Field.{Field}
use Rattle.lola_model.specs.Typing.{takes}
use Rattle.lola_panes.specs.declared.pane.Pane.{Pane}
use Rattle.lola_panes.specs.Weights.{number_at}
use Rattle.lola_panes.specs.Rings.{Rising, AllUpTo}
use Rattle.lola_panes.specs.Answers.{is_extreme}
use Rattle.lola_panes.specs.Holding.{HoldsPanes, HoldsBest, AllWithin}

-- a window's aggregation, the kind of its values, the length of a pane, how many panes the window has, and whether it is
-- missing until it reaches back no further than the start; whether a value was added, the newest offset, how many were added,
-- their total, the panes that are kept, and the best of these where the answer is one of the values
pub record Partials : Type 0 where
  pub aggregation : Agg
  pub kind : Kind
  pub pane : ℕ
  pub count : ℕ
  pub exact : Bool
  pub told : Bool
  pub newest : ℕ
  pub added : ℕ
  pub whole : ℤ
  pub panes : List Pane
  pub best : List Pane

-- the same, written as a row
abbrev pub partials : Agg → Kind → ℕ → ℕ → Bool → Bool → ℕ → ℕ → ℤ → List Pane → List Pane → Partials
partials how kind pane count exact told newest added whole panes best = record {
  aggregation = how;
  kind = kind;
  pane = pane;
  count = count;
  exact = exact;
  told = told;
  newest = newest;
  added = added;
  whole = whole;
  panes = panes;
  best = best;
}

-- the panes of a window that was given no value
abbrev pub no_values : Agg → Kind → ℕ → ℕ → Bool → Partials
no_values how kind pane count exact = partials how kind pane count exact false 0 0 (pos 0) [] []

-- the window has a pane, the ring has room for as many panes as the window has, and so has that of the best ones where they are
-- kept; numbers of panes rise up to that of the newest offset
pub record AreInOrder (p : Partials) (capacity best_capacity : ℕ) : Type 0 where
  pub pane : 1 ≤ p.pane
  pub count : 1 ≤ p.count
  pub capacity_is : capacity ≡ p.count
  pub best_capacity_is : is_extreme p.aggregation ≡ true → best_capacity ≡ p.count
  pub length_le : length p.panes ≤ capacity
  pub added : p.added ≤ 2 ^ 63
  pub rising : Rising 0 p.panes
  pub up_to : AllUpTo (number_at p.pane p.newest) p.panes
  pub best_rising : Rising 0 p.best
  pub best_up_to : AllUpTo (number_at p.pane p.newest) p.best
  pub kind : IsTrue (takes p.aggregation p.kind)

-- the pane of the newest of some values, which is the last of them
abbrev pub newest_of : ℕ → List (ℕ × Field) → Option ℕ
newest_of pane [] = None
newest_of pane (v ∷ []) = Some (number_at pane v.0)
newest_of pane (v ∷ w ∷ vs) = newest_of pane (w ∷ vs)

-- the pane of the newest value that was added
abbrev pub newest_pane : Partials → Option ℕ
newest_pane p = if p.told then Some (number_at p.pane p.newest) else None

-- the panes may have been given these values, each with its offset from the start, in this order
pub record StandFor (p : Partials) (all : List (ℕ × Field)) : Type 0 where
  pub holds : HoldsPanes p.aggregation p.pane p.count (number_at p.pane p.newest) p.whole p.added p.panes all
  pub bests : is_extreme p.aggregation ≡ true → HoldsBest p.aggregation p.pane p.count (number_at p.pane p.newest) p.best all
  pub within : AllWithin p.kind all
  pub newest : newest_of p.pane all ≡ newest_pane p

-- panes of the same window
pub record SameWindow (p q : Partials) : Type 0 where
  pub aggregation : p.aggregation ≡ q.aggregation
  pub kind : p.kind ≡ q.kind
  pub pane : p.pane ≡ q.pane
  pub count : p.count ≡ q.count
  pub exact : p.exact ≡ q.exact
