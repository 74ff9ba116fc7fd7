-- What is read of an instance to save it, and what becomes of it where it is restored.
use Rattle.std.specs.Prelude.{ℕ, ◌≡◌, ◌≤◌, ◌<◌, ◌+◌, ◌-◌, ◌*◌, ◌^◌, min, List, length, map, Option, Some, slice_get, slice_set, true}
use Rattle.std.specs.List.{sum_by}
use Rattle.circular_buffer.specs.Buffer.{keep_last}
use Rattle.lola_value.specs.declared.text.Field.{Field}
use Rattle.lola_value.specs.Naming.{Naming, read, AreHeld}
use Rattle.lola_panes.specs.declared.partial.Partial.{Partial}
use Rattle.lola_panes.specs.Parts.{counted, total_size, pane_values, partial_of}
use Rattle.lola_panes.specs.Restored.{AreRestored, first_offset}
use Rattle.lola_panes.specs.Standing.{Partials, StandFor, SameWindow, newest_of, newest_pane}
use Rattle.lola_panes.specs.Weights.{number_at}
use Rattle.lola_instances_one.specs.Holdings.{Holdings}
use Rattle.lola_instances_one.specs.Memories.{AllSince, AllStandFor, shifted}

-- the pane of the newest value of a window's panes, whatever values they stand for
abbrev pub IsNewestPane : Option ℕ → Partials → Type 0
IsNewestPane result p = (result ≡ newest_pane p) × ((all : List (ℕ × Field)) → StandFor p all → result ≡ newest_of p.pane all)

-- panes with a value, of which the k-th before the newest is one of the window that ends with that
pub record HasPane (k : ℕ) (p : Partials) : Type 0 where
  pub told : p.told ≡ true
  pub count : k < p.count
  pub pane : k ≤ number_at p.pane p.newest

-- the partial result of that one, whatever values they stand for
abbrev pub IsPartial : ℕ → Partial → Partials → Type 0
IsPartial k result p =
    (all : List (ℕ × Field)) → StandFor p all → result ≡ partial_of p.aggregation (pane_values p.pane (number_at p.pane p.newest - k) all)

-- panes can be restored up to a last one, from these partial results, behind so many values in all
pub record CanBeRestored (last : ℕ) (parts : List Partial) (count : ℕ) (p : Partials) : Type 0 where
  pub added : count < 2 ^ 63
  pub newest : first_offset p.pane last < 2 ^ 64
  pub partials : length parts ≡ min (last + 1) p.count
  pub counts : sum_by (counted p.aggregation) parts ≤ count
  pub totals : sum_by (total_size p.aggregation) parts ≤ count * 2 ^ 64

-- and they were: they stand for each list of values with these partial results
pub record WereRestored (last : ℕ) (parts : List Partial) (count : ℕ) (p q : Partials) : Type 0 where
  pub window : SameWindow q p
  pub newest : q.newest ≡ first_offset p.pane last
  pub pane : newest_pane q ≡ Some last
  pub added : q.added ≡ count
  pub all : (all : List (ℕ × Field)) → AreRestored p.aggregation p.kind p.pane last parts all → StandFor q all

-- the panes at a place became others, and no others were touched
pub record ArePanesChanged (R : Partials → Partials → Type 0) (place : ℕ) (ps qs : List Partials) : Type 0 where
  pub p : Partials
  pub q : Partials
  pub at : slice_get ps place ≡ Some p
  pub set : qs ≡ slice_set ps place q
  pub related : R p q

-- an instance between two steps may have had these values: they end as its last values do, its panes stand for them, none came
-- before the start, and the naming has the texts of what it holds
pub record MayHaveHad (start : ℕ) (names : Naming) (s : Holdings) (values : List (ℕ × Field)) : Type 0 where
  pub ring : map (read names) s.ring.values ≡ keep_last s.ring.capacity (map (λ v. v.1) values)
  pub panes : AllStandFor s.panes (map (shifted start) values)
  pub since : AllSince start values
  pub held : AreHeld names s.ring.values
