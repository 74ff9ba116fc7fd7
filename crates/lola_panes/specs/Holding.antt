-- Which lists of values, each with its offset, some panes stand for.
use Rattle.std.specs.Prelude.{ℕ, ◌+◌, ◌*◌, ◌≤◌, ◌≡◌, ℤ, pos, ◌-ℤ◌, List, [], ◌∷◌, ◌++◌, filter, Some, true, IsTrue}
use Rattle.lola_model.specs.declared.spec.Agg.{Agg}
use Rattle.lola_model.specs.Windows.{number_of, is_within_window}
use Rattle.lola_value.specs.declared.value.Kind.{Kind}
use Rattle.lola_value.specs.Arithmetic.{is_within}
use Rattle.lola_value.specs.declared.text.Field.{Field}
use Rattle.lola_panes.specs.declared.pane.Pane.{Pane}
use Rattle.lola_panes.specs.Answers.{is_extreme}
use Rattle.lola_panes.specs.Rings.{AllUpTo, Worsening, staying, best_pane}
use Rattle.lola_panes.specs.Tallies.{weights, Tells, InReach}
use Rattle.lola_panes.specs.Weights.{number_at, best_of}

-- the values are all of this pane
abbrev pub AllOf : ℕ → ℕ → List (ℕ × Field) → Type 0
AllOf pane number [] = Unit {0}
AllOf pane number (v ∷ vs) = (number_at pane v.0 ≡ number) × AllOf pane number vs

-- the values have left the window that ends with pane k
abbrev pub AllLeft : ℕ → ℕ → ℕ → List (ℕ × Field) → Type 0
AllLeft pane most k [] = Unit {0}
AllLeft pane most k (v ∷ vs) = (number_at pane v.0 + most ≤ k) × AllLeft pane most k vs

-- how many values there are before the first of these panes, of so many in all, and their total
abbrev pub count_at : ℕ → List Pane → ℕ
count_at added [] = added
count_at added (r ∷ rs) = r.count_before

abbrev pub total_at : ℤ → List Pane → ℤ
total_at sum [] = sum
total_at sum (r ∷ rs) = r.total_before

-- a pane and its own values, where so many values of this total come before the next one: what lies between tells of its own,
-- and both what it comes to and what all from it on come to is in reach
pub record IsPane (how : Agg) (pane : ℕ) (sum : ℤ) (added low : ℕ) (r : Pane) (next_count : ℕ) (next_total : ℤ) (front : List (ℕ × Field)) : Type 0 where
  pub low_le : low ≤ r.number
  pub own : AllOf pane r.number front
  pub best : is_extreme how ≡ true → best_of how (weights how front) ≡ Some r.extreme
  pub before : r.count_before ≤ next_count
  pub tells : Tells how (pos next_count -ℤ pos r.count_before) (next_total -ℤ r.total_before) front
  pub reach : InReach how added (next_total -ℤ r.total_before)
  pub since : InReach how added (sum -ℤ r.total_before)

-- the panes, from the one numbered low, are those of these values
module _ (how : Agg) (pane : ℕ) (sum : ℤ) (added : ℕ) where
  abbrev pub Grouped : ℕ → List Pane → List (ℕ × Field) → Type 0
  Grouped low [] vs = vs ≡ []
  Grouped low (r ∷ rs) vs =
      (front : List (ℕ × Field)) × (back : List (ℕ × Field)) × (vs ≡ front ++ back) × IsPane how pane sum added low r (count_at added rs) (total_at sum rs) front
      × Grouped (r.number + 1) rs back

-- all values: those that have left for good before the window that ends with the last pane, and those of the panes
pub record HoldsAll (how : Agg) (pane most last : ℕ) (sum : ℤ) (added : ℕ) (ring : List Pane) (all gone here : List (ℕ × Field)) : Type 0 where
  pub split : all ≡ gone ++ here
  pub left : AllLeft pane most last gone
  pub grouped : Grouped how pane sum added 0 ring here
  pub up_to : AllUpTo last ring
  pub reach : InReach how added sum

-- the panes hold these values, and some of them have left for good
abbrev pub HoldsPanes : Agg → ℕ → ℕ → ℕ → ℤ → ℕ → List Pane → List (ℕ × Field) → Type 0
HoldsPanes how pane most last sum added ring all =
    (gone : List (ℕ × Field)) × (here : List (ℕ × Field)) × HoldsAll how pane most last sum added ring all gone here

-- the best of the values in each window to come is the best of the panes that have not left it, and each pane is
-- better than all later ones: so the first that has not left is the best
pub record HoldsBest (how : Agg) (pane most last : ℕ) (ring : List Pane) (all : List (ℕ × Field)) : Type 0 where
  pub best : (k : ℕ) → last ≤ k
      → best_of how (weights how (filter (is_within_window (most * pane) (k * pane)) all)) ≡ best_pane how (staying most k ring)
  pub worsening : Worsening how ring

-- the numbers are within the kind
abbrev pub AllWithin : Kind → List (ℕ × Field) → Type 0
AllWithin kind [] = Unit {0}
AllWithin kind (v ∷ vs) = IsTrue (is_within kind (number_of v.1)) × AllWithin kind vs
